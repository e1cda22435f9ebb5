use Rattle.std.proofs.Common.{◌≡◌, ℕ, arith, length, subst}
use Rattle.std.proofs.lemmas.Result.{err_from_is_err_and}
use Rattle.task_core.specs.Tasks.{action_count}
use Rattle.slot_board.proofs.BoardSlots.{made_at, same_actions}
use Rattle.slot_board.proofs.Endings.{found_of, passed_on}
use Rattle.judge_sets.specs.Places.{HasLost}
use Rattle.judge_sets.proofs.ShrinkSteps.{lost_at_first, lost_more}
use Rattle.judge_sets.proofs.fixpoints.shrink_once.Goals as goal

pub loop-a-init : goal.loop-a-init
loop-a-init c scene from set has = lost_at_first scene c.args.enc.now c.args.board.now.slots.items from set has

pub shrink_by-requires-clause-ready : goal.shrink_by-requires-clause-ready
shrink_by-requires-clause-ready c = let r = c.requires.ready in let half = c.loop-a.invariant r.0 r.1 r.2 r.3 in (r.0, r.1, half.set, half.has)

pub shrink_by-requires-clause-action : goal.shrink_by-requires-clause-action
shrink_by-requires-clause-action c =
    let r = c.requires.ready in
    let e : length c.loop-a.enc.actions ≡ length c.args.enc.now.actions = same_actions r.0.start c.args.enc.now c.loop-a.enc c.args.board.now.slots.items c.loop-a.board.slots.items r.3.by_steps.there.at (c.loop-a.invariant r.0 r.1 r.2 r.3).has.by_steps.there.at in
    omega (arith, c.requires.actions)

pub returns-in_err-lost : goal.returns-in_err-lost
returns-in_err-lost c scene from set has =
    let half = c.loop-a.invariant scene from set has in
    passed_on scene.start c.shrink_by.new.enc c.shrink_by.new.board.slots.items _ _ c.shrink_by.result c.from_residual.result _ c.in_err-lost.was (err_from_is_err_and c.from_residual.result c.from_residual.ensures.1) (c.shrink_by.ensures scene from half.set half.has)

pub loop-a-preserved : goal.loop-a-preserved
loop-a-preserved c scene from set has =
    let half = c.loop-a.invariant scene from set has in
    lost_more scene c.loop-a.enc c.shrink_by.new.enc c.loop-a.board.slots.items c.shrink_by.new.board.slots.items from set c.loop-a.a c.loop-a.shrank c.in_ok-lost.lost c.either-shrank.result c.either-shrank.ensures half
    (found_of scene.start c.shrink_by.new.enc c.shrink_by.new.board.slots.items _ c.shrink_by.result _ c.in_ok-lost.was (c.shrink_by.ensures scene from half.set half.has))

pub returns : goal.returns
returns c scene from set has =
    let e : length c.args.enc.now.actions ≡ action_count scene.start.task = (made_at scene.start c.args.enc.now c.args.board.now.slots.items has.by_steps.there.at).actions in
    let n : c.loop-a.a ≡ action_count scene.start.task = omega (arith, c.requires.actions) in
    subst (λ (k : ℕ). HasLost scene c.loop-a.enc c.loop-a.board.slots.items from set k c.loop-a.shrank) n (c.loop-a.invariant scene from set has)
