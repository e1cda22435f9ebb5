use Rattle.std.proofs.lemmas.Result.{err_from_is_err_and}
use Rattle.slot_board.proofs.BoardSlots.{passed}
use Rattle.fair_plan.proofs.Boards.{actions_same, done}
use Rattle.fair_plan.proofs.rules.list_patrol.Goals as goal

pub loop-visit-init : goal.loop-visit-init
loop-visit-init c origin there =
    (there, λ contexts fit are. are)

pub list_visit-requires-clause-ready : goal.list_visit-requires-clause-ready
list_visit-requires-clause-ready c = let r = c.requires.ready in (r.0, (c.loop-visit.invariant r.0 r.1).0, r.2)

pub list_visit-requires-clause-actions : goal.list_visit-requires-clause-actions
list_visit-requires-clause-actions c =
    let r = c.requires.ready in
    actions_same r.0 (c.args.enc.now, c.args.board.now.slots.items) (c.loop-visit.enc, c.loop-visit.board.slots.items) r.1 (c.loop-visit.invariant r.0 r.1).0 c.args.sizes.actions c.requires.actions

pub returns-in_err-list_visit : goal.returns-in_err-list_visit
returns-in_err-list_visit c origin there =
    passed origin.start c.list_visit.new.enc c.list_visit.new.board.slots.items _ _ c.list_visit.result c.from_residual.result _ c.in_err-list_visit.was (err_from_is_err_and c.from_residual.result c.from_residual.ensures.1)
    (c.list_visit.ensures origin (c.loop-visit.invariant origin there).0)

pub loop-visit-preserved : goal.loop-visit-preserved
loop-visit-preserved c origin there =
    let k = c.loop-visit.invariant origin there in
    let more = done origin (c.list_visit.new.enc, c.list_visit.new.board.slots.items) _ c.list_visit.result _ c.in_ok-list_visit.was (c.list_visit.ensures origin k.0) in
    (more.0, λ contexts fit are. more.1 contexts fit (k.1 contexts fit are))

pub returns : goal.returns
returns c origin there = let k = c.loop-visit.invariant origin there in k
