use Rattle.std.proofs.Common.{◌+◌, arith}
use Rattle.std.proofs.lemmas.Result.{err_from_is_err_and}
use Rattle.slot_board.proofs.BoardSlots.{passed}
use Rattle.fair_plan.proofs.Boards.{actions_same, done, places_still}
use Rattle.fair_plan.proofs.takers.share.Goals as goal

pub loop-a-init : goal.loop-a-init
loop-a-init c origin there = there

pub share_by-requires-clause-ready : goal.share_by-requires-clause-ready
share_by-requires-clause-ready c = let r = c.requires.ready in (r.0, c.loop-a.invariant r.0 r.1)

pub share_by-requires-clause-action : goal.share_by-requires-clause-action
share_by-requires-clause-action c =
    let r = c.requires.ready in
    let e = actions_same r.0 (c.args.enc.now, c.args.board.now.slots.items) (c.loop-a.enc, c.loop-a.board.slots.items) r.1 (c.loop-a.invariant r.0 r.1) c.args.actions c.requires.actions in
    omega (arith, e)

pub share_by-requires-clause-places : goal.share_by-requires-clause-places
share_by-requires-clause-places c =
    let r = c.requires.ready in
    let e = actions_same r.0 (c.args.enc.now, c.args.board.now.slots.items) (c.loop-a.enc, c.loop-a.board.slots.items) r.1 (c.loop-a.invariant r.0 r.1) c.args.actions c.requires.actions in
    let few = places_still r.0 (c.args.enc.now, c.args.board.now.slots.items) (c.loop-a.enc, c.loop-a.board.slots.items) r.1 (c.loop-a.invariant r.0 r.1) (c.args.takers + c.args.actions) c.requires.places in
    omega (arith, e, few)

pub returns-in_err-share_by : goal.returns-in_err-share_by
returns-in_err-share_by c origin there =
    passed origin.start c.share_by.new.enc c.share_by.new.board.slots.items _ _ c.share_by.result c.from_residual.result _ c.in_err-share_by.was (err_from_is_err_and c.from_residual.result c.from_residual.ensures.1)
    (c.share_by.ensures origin (c.loop-a.invariant origin there))

pub loop-a-preserved : goal.loop-a-preserved
loop-a-preserved c origin there =
    (done origin (c.share_by.new.enc, c.share_by.new.board.slots.items) _ c.share_by.result _ c.in_ok-share_by.was (c.share_by.ensures origin (c.loop-a.invariant origin there))).0

pub returns : goal.returns
returns c origin there = (c.loop-a.invariant origin there, tt)
