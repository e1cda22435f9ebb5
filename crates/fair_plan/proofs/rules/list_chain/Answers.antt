use Rattle.std.proofs.lemmas.Result.{err_from_is_err_and}
use Rattle.slot_board.proofs.BoardSlots.{passed}
use Rattle.fair_plan.proofs.Boards.{actions_same, done}
use Rattle.fair_plan.proofs.rules.list_chain.Goals as goal

pub loop-stage-init : goal.loop-stage-init
loop-stage-init c origin there =
    (there, λ contexts fit are. are)

pub list_context-requires-clause-ready : goal.list_context-requires-clause-ready
list_context-requires-clause-ready c = let r = c.requires.ready in (r.0, (c.loop-stage.invariant r.0 r.1).0, r.2)

pub list_context-requires-clause-actions : goal.list_context-requires-clause-actions
list_context-requires-clause-actions c =
    let r = c.requires.ready in
    actions_same r.0 (c.args.enc.now, c.args.board.now.slots.items) (c.loop-stage.enc, c.loop-stage.board.slots.items) r.1 (c.loop-stage.invariant r.0 r.1).0 c.args.sizes.actions c.requires.actions

pub returns-in_err-list_context : goal.returns-in_err-list_context
returns-in_err-list_context c origin there =
    passed origin.start c.list_context.new.enc c.list_context.new.board.slots.items _ _ c.list_context.result c.from_residual.result _ c.in_err-list_context.was (err_from_is_err_and c.from_residual.result c.from_residual.ensures.1)
    (c.list_context.ensures origin (c.loop-stage.invariant origin there).0)

pub loop-stage-preserved : goal.loop-stage-preserved
loop-stage-preserved c origin there =
    let k = c.loop-stage.invariant origin there in
    let more = done origin (c.list_context.new.enc, c.list_context.new.board.slots.items) _ c.list_context.result _ c.in_ok-list_context.was (c.list_context.ensures origin k.0) in
    (more.0, λ contexts fit are. more.1 contexts fit (k.1 contexts fit are))

pub returns : goal.returns
returns c origin there = let k = c.loop-stage.invariant origin there in k
