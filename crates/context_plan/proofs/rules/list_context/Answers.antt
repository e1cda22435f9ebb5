use Rattle.context_plan.proofs.RuleSteps.{stages_none, stages_all}
use Rattle.context_plan.specs.Scenes.{board_of}
use Rattle.plan_rules.specs.Rules.{context_rule_of}
use Rattle.slot_board.proofs.BoardSlots.{went, passed, same_actions}
use Rattle.std.proofs.Common.{◌≡◌, arith, length, map}
use Rattle.std.proofs.lemmas.Result.{err_from_is_err_and}
use Rattle.context_plan.proofs.rules.list_context.Goals as goal

pub loop-next-init : goal.loop-next-init
loop-next-init c start chain n h =
    stages_none start (c.args.enc.now, c.args.board.now.slots.items) chain (map context_rule_of c.args.rules.now.items) c.args.stage h

pub list_stage-requires-clause-ready : goal.list_stage-requires-clause-ready
list_stage-requires-clause-ready c =
    let start = c.requires.ready.0 in
    let chain = c.requires.ready.1 in
    let n = c.requires.ready.2 in
    let h = c.requires.ready.3 in
    (start, chain, map context_rule_of c.args.rules.now.items, n, (c.loop-next.invariant start chain n h))

pub list_stage-requires-clause-actions : goal.list_stage-requires-clause-actions
list_stage-requires-clause-actions c =
    let start = c.requires.ready.0 in
    let chain = c.requires.ready.1 in
    let n = c.requires.ready.2 in
    let h = c.requires.ready.3 in
    let e : length c.loop-next.enc.actions ≡ length c.args.enc.now.actions = same_actions (board_of start) c.args.enc.now c.loop-next.enc c.args.board.now.slots.items c.loop-next.board.slots.items h.takers.ready.at (c.loop-next.invariant start chain n h).table.takers.ready.at in
    omega (arith, c.requires.actions)

pub returns-in_err-list_stage : goal.returns-in_err-list_stage
returns-in_err-list_stage c start chain n h =
    let p = err_from_is_err_and c.from_residual.result c.from_residual.ensures.1 in
    passed (board_of start) c.list_stage.new.enc c.list_stage.new.board.slots.items _ _ c.list_stage.result c.from_residual.result _ c.in_err-list_stage.was p (c.list_stage.ensures start chain (map context_rule_of c.args.rules.now.items) n (c.loop-next.invariant start chain n h))

pub loop-next-preserved : goal.loop-next-preserved
loop-next-preserved c start chain n h =
    went (board_of start) c.list_stage.new.enc c.list_stage.new.board.slots.items _ c.list_stage.result _ c.in_ok-list_stage.was (c.list_stage.ensures start chain (map context_rule_of c.args.rules.now.items) n (c.loop-next.invariant start chain n h))

pub returns : goal.returns
returns c start chain n h =
    stages_all start (c.loop-next.enc, c.loop-next.board.slots.items) chain (map context_rule_of c.args.rules.now.items) (map context_rule_of c.loop-next.rules.items) c.args.stage c.loop-next.next h.stages (omega (arith, n, c.requires.stage)) (omega (arith, n)) (c.loop-next.invariant start chain n h)
