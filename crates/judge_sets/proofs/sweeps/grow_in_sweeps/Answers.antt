use Rattle.std.proofs.Common.{◌≡◌, arith, length}
use Rattle.std.proofs.lemmas.Result.{err_from_is_err_and}
use Rattle.slot_board.proofs.BoardSlots.{same_actions}
use Rattle.slot_board.proofs.Endings.{found_of, passed_on}
use Rattle.judge_sets.proofs.sweeps.grow_in_sweeps.Goals as goal

pub loop-init : goal.loop-init
loop-init c scene still = still

pub grow_in_order-requires-clause-ready : goal.grow_in_order-requires-clause-ready
grow_in_order-requires-clause-ready c = let r = c.requires.ready in (r.0, c.loop.invariant r.0 r.1)

pub grow_in_order-requires-clause-actions : goal.grow_in_order-requires-clause-actions
grow_in_order-requires-clause-actions c =
    let r = c.requires.ready in
    let e : length c.loop.enc.actions ≡ length c.args.enc.now.actions = same_actions r.0.start c.args.enc.now c.loop.enc c.args.board.now.slots.items c.loop.board.slots.items r.1.has.by_steps.there.at (c.loop.invariant r.0 r.1).has.by_steps.there.at in
    omega (arith, c.requires.actions)

pub returns-in_err-grow_in_order : goal.returns-in_err-grow_in_order
returns-in_err-grow_in_order c scene still =
    passed_on scene.start c.grow_in_order.new.enc c.grow_in_order.new.board.slots.items _ _ c.grow_in_order.result c.from_residual.result _ c.in_err-grow_in_order.was (err_from_is_err_and c.from_residual.result c.from_residual.ensures.1) (c.grow_in_order.ensures scene (c.loop.invariant scene still))

pub returns-then-not-branch : goal.returns-then-not-branch
returns-then-not-branch c scene still =
    found_of scene.start c.grow_in_order.new.enc c.grow_in_order.new.board.slots.items _ c.grow_in_order.result _ c.in_ok-grow_in_order.was (c.grow_in_order.ensures scene (c.loop.invariant scene still))

pub loop-preserved : goal.loop-preserved
loop-preserved c scene still =
    found_of scene.start c.grow_in_order.new.enc c.grow_in_order.new.board.slots.items _ c.grow_in_order.result _ c.in_ok-grow_in_order.was (c.grow_in_order.ensures scene (c.loop.invariant scene still))

pub returns : goal.returns
returns c scene still = c.loop.invariant scene still
