use Rattle.context_plan.proofs.RuleSteps.{contexts_none, contexts_more, contexts_all}
use Rattle.context_plan.specs.Scenes.{board_of}
use Rattle.plan_rules.specs.Rules.{context_rule_of}
use Rattle.slot_board.proofs.BoardSlots.{went, passed, same_actions}
use Rattle.std.proofs.Common.{◌≡◌, arith, length, map}
use Rattle.std.proofs.lemmas.Result.{err_from_is_err_and}
use Rattle.context_plan.proofs.rules.list_all.Goals as goal

pub loop-stage-init : goal.loop-stage-init
loop-stage-init c start chain n h =
    contexts_none start (c.args.enc.now, c.args.board.now.slots.items) chain (map context_rule_of c.args.rules.now.items) h

pub list_context-requires-clause-ready : goal.list_context-requires-clause-ready
list_context-requires-clause-ready c =
    let start = c.requires.ready.0 in
    let chain = c.requires.ready.1 in
    let n = c.requires.ready.2 in
    let h = c.requires.ready.3 in
    (start, chain, n, (c.loop-stage.invariant start chain n h).table)

pub list_context-requires-clause-actions : goal.list_context-requires-clause-actions
list_context-requires-clause-actions c =
    let start = c.requires.ready.0 in
    let chain = c.requires.ready.1 in
    let n = c.requires.ready.2 in
    let h = c.requires.ready.3 in
    let e : length c.loop-stage.enc.actions ≡ length c.args.enc.now.actions = same_actions (board_of start) c.args.enc.now c.loop-stage.enc c.args.board.now.slots.items c.loop-stage.board.slots.items h.takers.ready.at (c.loop-stage.invariant start chain n h).table.takers.ready.at in
    omega (arith, c.requires.actions)

pub returns-in_err-list_context : goal.returns-in_err-list_context
returns-in_err-list_context c start chain n h =
    let p = err_from_is_err_and c.from_residual.result c.from_residual.ensures.1 in
    passed (board_of start) c.list_context.new.enc c.list_context.new.board.slots.items _ _ c.list_context.result c.from_residual.result _ c.in_err-list_context.was p (c.list_context.ensures start chain n (c.loop-stage.invariant start chain n h).table)

pub loop-stage-preserved : goal.loop-stage-preserved
loop-stage-preserved c start chain n h =
    contexts_more start (c.loop-stage.enc, c.loop-stage.board.slots.items) (c.list_context.new.enc, c.list_context.new.board.slots.items) chain (map context_rule_of c.args.rules.now.items) (map context_rule_of c.loop-stage.rules.items) (map context_rule_of c.list_context.new.rules.items) c.loop-stage.stage (c.loop-stage.invariant start chain n h) (went (board_of start) c.list_context.new.enc c.list_context.new.board.slots.items _ c.list_context.result _ c.in_ok-list_context.was (c.list_context.ensures start chain n (c.loop-stage.invariant start chain n h).table))

pub returns : goal.returns
returns c start chain n h =
    contexts_all start (c.loop-stage.enc, c.loop-stage.board.slots.items) chain (map context_rule_of c.args.rules.now.items) (map context_rule_of c.loop-stage.rules.items) c.loop-stage.stage h.stages (omega (arith, n)) (c.loop-stage.invariant start chain n h)
