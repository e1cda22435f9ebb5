use Rattle.std.proofs.Common.{◌≡◌, arith, length}
use Rattle.std.proofs.lemmas.Result.{err_from_is_err_and}
use Rattle.slot_board.proofs.BoardSlots.{same_actions}
use Rattle.slot_board.proofs.Endings.{found_of, passed_on}
use Rattle.judge_sets.proofs.sweeps.shrink_in_sweeps.Goals as goal

pub loop-init : goal.loop-init
loop-init c scene from still = still

pub shrink_in_order-requires-clause-ready : goal.shrink_in_order-requires-clause-ready
shrink_in_order-requires-clause-ready c = let r = c.requires.ready in (r.0, r.1, c.loop.invariant r.0 r.1 r.2)

pub shrink_in_order-requires-clause-actions : goal.shrink_in_order-requires-clause-actions
shrink_in_order-requires-clause-actions c =
    let r = c.requires.ready in
    let e : length c.loop.enc.actions ≡ length c.args.enc.now.actions = same_actions r.0.start c.args.enc.now c.loop.enc c.args.board.now.slots.items c.loop.board.slots.items r.2.has.by_steps.there.at (c.loop.invariant r.0 r.1 r.2).has.by_steps.there.at in
    omega (arith, c.requires.actions)

pub returns-in_err-shrink_in_order : goal.returns-in_err-shrink_in_order
returns-in_err-shrink_in_order c scene from still =
    passed_on scene.start c.shrink_in_order.new.enc c.shrink_in_order.new.board.slots.items _ _ c.shrink_in_order.result c.from_residual.result _ c.in_err-shrink_in_order.was (err_from_is_err_and c.from_residual.result c.from_residual.ensures.1) (c.shrink_in_order.ensures scene from (c.loop.invariant scene from still))

pub returns-then-not-branch : goal.returns-then-not-branch
returns-then-not-branch c scene from still =
    found_of scene.start c.shrink_in_order.new.enc c.shrink_in_order.new.board.slots.items _ c.shrink_in_order.result _ c.in_ok-shrink_in_order.was (c.shrink_in_order.ensures scene from (c.loop.invariant scene from still))

pub loop-preserved : goal.loop-preserved
loop-preserved c scene from still =
    found_of scene.start c.shrink_in_order.new.enc c.shrink_in_order.new.board.slots.items _ c.shrink_in_order.result _ c.in_ok-shrink_in_order.was (c.shrink_in_order.ensures scene from (c.loop.invariant scene from still))

pub returns : goal.returns
returns c scene from still = c.loop.invariant scene from still
