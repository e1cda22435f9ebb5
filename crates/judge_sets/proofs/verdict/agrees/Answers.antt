use Rattle.std.proofs.Common.{◌≡◌, arith, length}
use Rattle.std.proofs.lemmas.Result.{err_from_is_err_and}
use Rattle.slot_board.specs.Board.{set_at}
use Rattle.slot_board.proofs.BoardSlots.{same_actions, went}
use Rattle.slot_board.proofs.Endings.{ends_with, passed_on}
use Rattle.judge_sets.specs.Fixpoints.IsBegin.{agreeing}
use Rattle.judge_sets.proofs.JudgeSteps.{agree_can, agree_made, agree_steps_kept, agree_told}
use Rattle.judge_sets.proofs.StepFacts.{shown}
use Rattle.judge_sets.proofs.verdict.agrees.Goals as goal

pub make_all-requires : goal.make_all-requires
make_all-requires c =
    let r = c.requires.ready in
    let enc = c.args.enc.now in
    let slots = c.args.board.now.slots.items in
    (r.0.start, set_at enc.sets slots, shown r.0 enc slots r.1.there, agree_can r.0 enc slots r.1)

pub returns-in_err-make_all : goal.returns-in_err-make_all
returns-in_err-make_all c scene has =
    let enc = c.args.enc.now in
    let slots = c.args.board.now.slots.items in
    passed_on scene.start c.make_all.new.enc c.make_all.new.board.slots.items _ _ c.make_all.result c.from_residual.result _ c.in_err-make_all.was (err_from_is_err_and c.from_residual.result c.from_residual.ensures.1)
    (c.make_all.ensures scene.start (set_at enc.sets slots) (shown scene enc slots has.there) (agree_can scene enc slots has))

pub stays_in-requires-clause-ready : goal.stays_in-requires-clause-ready
stays_in-requires-clause-ready c =
    let r = c.requires.ready in
    let enc = c.args.enc.now in
    let slots = c.args.board.now.slots.items in
    let done = went r.0.start c.make_all.new.enc c.make_all.new.board.slots.items _ c.make_all.result _ c.in_ok-make_all.was (c.make_all.ensures r.0.start (set_at enc.sets slots) (shown r.0 enc slots r.1.there) (agree_can r.0 enc slots r.1)) in
    (r.0, _, agree_steps_kept r.0 enc slots r.1 c.make_all.new.enc c.make_all.new.board.slots.items done, agreeing, agree_made r.0 enc slots r.1 c.make_all.new.enc c.make_all.new.board.slots.items done)

pub stays_in-requires-clause-place : goal.stays_in-requires-clause-place
stays_in-requires-clause-place c = omega arith

pub stays_in-requires-clause-actions : goal.stays_in-requires-clause-actions
stays_in-requires-clause-actions c =
    let r = c.requires.ready in
    let enc = c.args.enc.now in
    let slots = c.args.board.now.slots.items in
    let done = went r.0.start c.make_all.new.enc c.make_all.new.board.slots.items _ c.make_all.result _ c.in_ok-make_all.was (c.make_all.ensures r.0.start (set_at enc.sets slots) (shown r.0 enc slots r.1.there) (agree_can r.0 enc slots r.1)) in
    let e : length c.make_all.new.enc.actions ≡ length c.args.enc.now.actions = same_actions r.0.start c.args.enc.now c.make_all.new.enc c.args.board.now.slots.items c.make_all.new.board.slots.items r.1.there.at done.at in
    omega (arith, c.requires.actions)

pub returns : goal.returns
returns c scene has =
    let enc = c.args.enc.now in
    let slots = c.args.board.now.slots.items in
    let done = went scene.start c.make_all.new.enc c.make_all.new.board.slots.items _ c.make_all.result _ c.in_ok-make_all.was (c.make_all.ensures scene.start (set_at enc.sets slots) (shown scene enc slots has.there) (agree_can scene enc slots has)) in
    ends_with scene.start c.stays_in.new.enc c.stays_in.new.board.slots.items _ _ c.stays_in.result (λ b told. (told.0, agree_told scene b told.1))
    (c.stays_in.ensures scene _ (agree_steps_kept scene enc slots has c.make_all.new.enc c.make_all.new.board.slots.items done) agreeing (agree_made scene enc slots has c.make_all.new.enc c.make_all.new.board.slots.items done))
