use Rattle.std.proofs.Common.{arith, subst, take, take_all}
use Rattle.std.proofs.lemmas.Result.{err_from_is_err_and}
use Rattle.slot_board.specs.Board.{set_at}
use Rattle.slot_board.proofs.BoardSlots.{passed, went}
use Rattle.task_core.specs.Cubes.{Cube}
use Rattle.judge_sets.specs.Places.{HasCube}
use Rattle.judge_sets.proofs.ReadSteps.{literal_low, literal_more, literal_small, whole_can, whole_made}
use Rattle.judge_sets.proofs.StepFacts.{shown}
use Rattle.judge_sets.proofs.reading.make_cube.Goals as goal

pub make_all-requires : goal.make_all-requires
make_all-requires c =
    let r = c.requires in
    let enc = c.args.enc.now in
    let slots = c.args.board.now.slots.items in
    (r.0.start, set_at enc.sets slots, shown r.0 enc slots r.3.there, whole_can r.0 r.1 enc slots r.3)

pub returns-in_err-make_all : goal.returns-in_err-make_all
returns-in_err-make_all c scene before rule has next same =
    let enc = c.args.enc.now in
    let slots = c.args.board.now.slots.items in
    passed scene.start c.make_all.new.enc c.make_all.new.board.slots.items _ _ c.make_all.result c.from_residual.result _ c.in_err-make_all.was (err_from_is_err_and c.from_residual.result c.from_residual.ensures.1)
    (c.make_all.ensures scene.start (set_at enc.sets slots) (shown scene enc slots has.there) (whole_can scene before enc slots has))

pub loop-lit-init : goal.loop-lit-init
loop-lit-init c scene before rule has next same =
    let enc = c.args.enc.now in
    let slots = c.args.board.now.slots.items in
    whole_made scene before enc slots has c.make_all.new.enc c.make_all.new.board.slots.items
    (went scene.start c.make_all.new.enc c.make_all.new.board.slots.items _ c.make_all.result _ c.in_ok-make_all.was (c.make_all.ensures scene.start (set_at enc.sets slots) (shown scene enc slots has.there) (whole_can scene before enc slots has)))

pub put_literal-requires : goal.put_literal-requires
put_literal-requires c =
    let r = c.requires in
    let i = c.loop-lit.lit-index in (
      r.0,
      r.1,
      take i c.args.cube.now,
      c.loop-lit.invariant r.0 r.1 r.2 r.3 r.4 r.5,
      literal_low r.0 r.1 r.2 r.4 c.args.cube.now r.5 i _ c.loop-lit-test.true,
      literal_small r.0 r.1 r.2 r.4 c.args.cube.now r.5 i _ c.loop-lit-test.true,
    )

pub returns-in_err-put_literal : goal.returns-in_err-put_literal
returns-in_err-put_literal c scene before rule has next same =
    let i = c.loop-lit.lit-index in
    passed scene.start c.put_literal.new.enc c.put_literal.new.board.slots.items _ _ c.put_literal.result c.from_residual-in_err-put_literal.result _ c.in_err-put_literal.was (err_from_is_err_and c.from_residual-in_err-put_literal.result c.from_residual-in_err-put_literal.ensures.1)
    (c.put_literal.ensures scene before (take i c.args.cube.now) (c.loop-lit.invariant scene before rule has next same) (literal_low scene before rule next c.args.cube.now same i _ c.loop-lit-test.true) (literal_small scene before rule next c.args.cube.now same i _ c.loop-lit-test.true))

pub loop-lit-preserved : goal.loop-lit-preserved
loop-lit-preserved c scene before rule has next same =
    let i = c.loop-lit.lit-index in
    subst (λ (cube : Cube). HasCube scene c.put_literal.new.enc c.put_literal.new.board.slots.items before cube) (literal_more c.args.cube.now i _ c.loop-lit-test.true)
    (went scene.start c.put_literal.new.enc c.put_literal.new.board.slots.items _ c.put_literal.result _ c.in_ok-put_literal.was
    (c.put_literal.ensures scene before (take i c.args.cube.now) (c.loop-lit.invariant scene before rule has next same) (literal_low scene before rule next c.args.cube.now same i _ c.loop-lit-test.true) (literal_small scene before rule next c.args.cube.now same i _ c.loop-lit-test.true)))

pub returns : goal.returns
returns c scene before rule has next same =
    subst (λ (cube : Cube). HasCube scene c.loop-lit.enc c.loop-lit.board.slots.items before cube) (take_all c.loop-lit.lit-index c.args.cube.now (omega (arith, c.loop-lit-test.false)))
    (c.loop-lit.invariant scene before rule has next same)
