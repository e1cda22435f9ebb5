use Rattle.std.proofs.Common.{◌≡◌, arith, length}
use Rattle.std.proofs.lemmas.Result.{err_from_is_err_and}
use Rattle.slot_board.proofs.BoardSlots.{same_actions}
use Rattle.slot_board.proofs.Endings.{found_of, passed_on}
use Rattle.judge_sets.proofs.sweeps.shrink_in_order.Goals as goal

pub loop-a-init : goal.loop-a-init
loop-a-init c scene from still = still

pub shrink_if-requires-clause-ready : goal.shrink_if-requires-clause-ready
shrink_if-requires-clause-ready c = let r = c.requires.ready in (r.0, r.1, c.loop-a.invariant r.0 r.1 r.2)

pub shrink_if-requires-clause-actions : goal.shrink_if-requires-clause-actions
shrink_if-requires-clause-actions c =
    let r = c.requires.ready in
    let e : length c.loop-a.enc.actions ≡ length c.args.enc.now.actions = same_actions r.0.start c.args.enc.now c.loop-a.enc c.args.board.now.slots.items c.loop-a.board.slots.items r.2.has.by_steps.there.at (c.loop-a.invariant r.0 r.1 r.2).has.by_steps.there.at in
    omega (arith, c.requires.actions)

pub returns-in_err-lost : goal.returns-in_err-lost
returns-in_err-lost c scene from still =
    passed_on scene.start c.shrink_if.new.enc c.shrink_if.new.board.slots.items _ _ c.shrink_if.result c.from_residual.result _ c.in_err-lost.was (err_from_is_err_and c.from_residual.result c.from_residual.ensures.1) (c.shrink_if.ensures scene from (c.loop-a.invariant scene from still))

pub loop-a-preserved : goal.loop-a-preserved
loop-a-preserved c scene from still =
    found_of scene.start c.shrink_if.new.enc c.shrink_if.new.board.slots.items _ c.shrink_if.result _ c.in_ok-lost.was (c.shrink_if.ensures scene from (c.loop-a.invariant scene from still))

pub returns : goal.returns
returns c scene from still = c.loop-a.invariant scene from still
