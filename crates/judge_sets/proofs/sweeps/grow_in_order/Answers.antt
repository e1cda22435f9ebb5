use Rattle.std.proofs.Common.{◌≡◌, arith, length}
use Rattle.std.proofs.lemmas.Result.{err_from_is_err_and}
use Rattle.slot_board.proofs.BoardSlots.{same_actions}
use Rattle.slot_board.proofs.Endings.{found_of, passed_on}
use Rattle.judge_sets.proofs.sweeps.grow_in_order.Goals as goal

pub loop-a-init : goal.loop-a-init
loop-a-init c scene still = still

pub grow_if-requires-clause-ready : goal.grow_if-requires-clause-ready
grow_if-requires-clause-ready c = let r = c.requires.ready in (r.0, c.loop-a.invariant r.0 r.1)

pub grow_if-requires-clause-actions : goal.grow_if-requires-clause-actions
grow_if-requires-clause-actions c =
    let r = c.requires.ready in
    let e : length c.loop-a.enc.actions ≡ length c.args.enc.now.actions = same_actions r.0.start c.args.enc.now c.loop-a.enc c.args.board.now.slots.items c.loop-a.board.slots.items r.1.has.by_steps.there.at (c.loop-a.invariant r.0 r.1).has.by_steps.there.at in
    omega (arith, c.requires.actions)

pub returns-in_err-gained : goal.returns-in_err-gained
returns-in_err-gained c scene still =
    passed_on scene.start c.grow_if.new.enc c.grow_if.new.board.slots.items _ _ c.grow_if.result c.from_residual.result _ c.in_err-gained.was (err_from_is_err_and c.from_residual.result c.from_residual.ensures.1) (c.grow_if.ensures scene (c.loop-a.invariant scene still))

pub loop-a-preserved : goal.loop-a-preserved
loop-a-preserved c scene still =
    found_of scene.start c.grow_if.new.enc c.grow_if.new.board.slots.items _ c.grow_if.result _ c.in_ok-gained.was (c.grow_if.ensures scene (c.loop-a.invariant scene still))

pub returns : goal.returns
returns c scene still = c.loop-a.invariant scene still
