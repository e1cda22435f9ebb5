use Rattle.std.proofs.lemmas.Result.{err_from_is_err_and}
use Rattle.slot_board.proofs.BoardSlots.{passed}
use Rattle.fair_plan.proofs.Boards.{actions_same, done}
use Rattle.fair_plan.proofs.rules.list_context.Goals as goal

pub loop-next-init : goal.loop-next-init
loop-next-init c origin there =
    (there, λ contexts fit are. are)

pub list_next-requires-clause-ready : goal.list_next-requires-clause-ready
list_next-requires-clause-ready c = let r = c.requires.ready in (r.0, (c.loop-next.invariant r.0 r.1).0, r.2)

pub list_next-requires-clause-actions : goal.list_next-requires-clause-actions
list_next-requires-clause-actions c =
    let r = c.requires.ready in
    actions_same r.0 (c.args.enc.now, c.args.board.now.slots.items) (c.loop-next.enc, c.loop-next.board.slots.items) r.1 (c.loop-next.invariant r.0 r.1).0 c.args.sizes.actions c.requires.actions

pub returns-in_err-list_next : goal.returns-in_err-list_next
returns-in_err-list_next c origin there =
    passed origin.start c.list_next.new.enc c.list_next.new.board.slots.items _ _ c.list_next.result c.from_residual.result _ c.in_err-list_next.was (err_from_is_err_and c.from_residual.result c.from_residual.ensures.1)
    (c.list_next.ensures origin (c.loop-next.invariant origin there).0)

pub loop-next-preserved : goal.loop-next-preserved
loop-next-preserved c origin there =
    let k = c.loop-next.invariant origin there in
    let more = done origin (c.list_next.new.enc, c.list_next.new.board.slots.items) _ c.list_next.result _ c.in_ok-list_next.was (c.list_next.ensures origin k.0) in
    (more.0, λ contexts fit are. more.1 contexts fit (k.1 contexts fit are))

pub returns : goal.returns
returns c origin there = let k = c.loop-next.invariant origin there in k
