use Rattle.std.proofs.Common.{◌≡◌, arith, length, true≢false}
use Rattle.std.proofs.lemmas.Result.{err_from_is_err_and}
use Rattle.task_core.specs.Tasks.{action_count}
use Rattle.slot_board.proofs.BoardSlots.{same_actions, same_fluents}
use Rattle.slot_board.proofs.Endings.{found_of, passed_on}
use Rattle.judge_sets.proofs.ShrinkSteps.{shrink_less}
use Rattle.judge_sets.proofs.fixpoints.shrink_to_end.Goals as goal

pub loop-shrank-init : goal.loop-shrank-init
loop-shrank-init c scene from set has = (set, has, λ e. absurd (true≢false e))

pub shrink_once-requires-clause-ready : goal.shrink_once-requires-clause-ready
shrink_once-requires-clause-ready c = let r = c.requires.ready in let k = c.loop-shrank.invariant r.0 r.1 r.2 r.3 in (r.0, r.1, k.0, k.1)

pub shrink_once-requires-clause-actions : goal.shrink_once-requires-clause-actions
shrink_once-requires-clause-actions c =
    let r = c.requires.ready in
    let e : length c.loop-shrank.enc.actions ≡ length c.args.enc.now.actions = same_actions r.0.start c.args.enc.now c.loop-shrank.enc c.args.board.now.slots.items c.loop-shrank.board.slots.items r.3.by_steps.there.at (c.loop-shrank.invariant r.0 r.1 r.2 r.3).1.by_steps.there.at in
    omega (arith, c.requires.actions)

pub returns-in_err-shrank : goal.returns-in_err-shrank
returns-in_err-shrank c scene from set has =
    let k = c.loop-shrank.invariant scene from set has in
    passed_on scene.start c.shrink_once.new.enc c.shrink_once.new.board.slots.items _ _ c.shrink_once.result c.from_residual.result _ c.in_err-shrank.was (err_from_is_err_and c.from_residual.result c.from_residual.ensures.1) (c.shrink_once.ensures scene from k.0 k.1)

pub loop-shrank-smaller : goal.loop-shrank-smaller
loop-shrank-smaller c =
    let r = c.requires.ready in
    let k = c.loop-shrank.invariant r.0 r.1 r.2 r.3 in
    let after = found_of r.0.start c.shrink_once.new.enc c.shrink_once.new.board.slots.items _ c.shrink_once.result _ c.in_ok-shrank.was (c.shrink_once.ensures r.0 r.1 k.0 k.1) in
    shrink_less r.0 c.loop-shrank.enc c.shrink_once.new.enc c.loop-shrank.board.slots.items c.shrink_once.new.board.slots.items r.1 k.0 (action_count r.0.start.task) c.args.enc.now.fluents c.loop-shrank.shrank c.in_ok-shrank.shrank
    (same_fluents r.0.start c.args.enc.now c.args.board.now.slots.items r.3.by_steps.there.at) c.loop-shrank-test.true k.1 after

pub loop-shrank-preserved : goal.loop-shrank-preserved
loop-shrank-preserved c scene from set has =
    let k = c.loop-shrank.invariant scene from set has in
    let after = found_of scene.start c.shrink_once.new.enc c.shrink_once.new.board.slots.items _ c.shrink_once.result _ c.in_ok-shrank.was (c.shrink_once.ensures scene from k.0 k.1) in
    (after.set, after.has, λ e. (after.same e).1)

pub returns : goal.returns
returns c scene from set has = let k = c.loop-shrank.invariant scene from set has in record { set = k.0; has = k.1; none = k.2 c.loop-shrank-test.false }
