use Rattle.context_plan.proofs.RuleSteps.{actions_all, actions_more, actions_none}
use Rattle.context_plan.specs.Scenes.{board_of}
use Rattle.plan_rules.specs.Rules.{context_rule_of}
use Rattle.slot_board.proofs.BoardSlots.{made_at, passed, same_actions, went}
use Rattle.std.proofs.Common.{◌≡◌, arith, length, map}
use Rattle.std.proofs.lemmas.Result.{err_from_is_err_and}
use Rattle.task_core.specs.Tasks.{action_count}
use Rattle.context_plan.proofs.rules.list_actions.Goals as goal

pub loop-a-init : goal.loop-a-init
loop-a-init c start chain place h = actions_none start (c.args.enc.now, c.args.board.now.slots.items) chain (map context_rule_of c.args.rules.now.items) c.args.advance.stage c.args.advance.next h

pub list_action-requires-clause-ready : goal.list_action-requires-clause-ready
list_action-requires-clause-ready c =
    let start = c.requires.ready.0 in
    let chain = c.requires.ready.1 in
    let place = c.requires.ready.2 in
    let h = c.requires.ready.3 in
    (start, chain, place, (c.loop-a.invariant start chain place h).turning)

pub list_action-requires-clause-action : goal.list_action-requires-clause-action
list_action-requires-clause-action c =
    let start = c.requires.ready.0 in
    let chain = c.requires.ready.1 in
    let place = c.requires.ready.2 in
    let h = c.requires.ready.3 in
    let e : length c.loop-a.enc.actions ≡ length c.args.enc.now.actions = same_actions (board_of start) c.args.enc.now c.loop-a.enc c.args.board.now.slots.items c.loop-a.board.slots.items h.table.takers.ready.at (c.loop-a.invariant start chain place h).turning.table.takers.ready.at in
    omega (arith, c.requires.actions)

pub returns-in_err-list_action : goal.returns-in_err-list_action
returns-in_err-list_action c start chain place h =
    let p = err_from_is_err_and c.from_residual.result c.from_residual.ensures.1 in
    passed (board_of start) c.list_action.new.enc c.list_action.new.board.slots.items _ _ c.list_action.result c.from_residual.result _ c.in_err-list_action.was p (c.list_action.ensures start chain place (c.loop-a.invariant start chain place h).turning)

pub loop-a-preserved : goal.loop-a-preserved
loop-a-preserved c start chain place h =
    actions_more start (c.loop-a.enc, c.loop-a.board.slots.items) (c.list_action.new.enc, c.list_action.new.board.slots.items) chain (map context_rule_of c.args.rules.now.items) (map context_rule_of c.loop-a.rules.items) (map context_rule_of c.list_action.new.rules.items) c.args.advance.stage c.args.advance.next c.loop-a.a (c.loop-a.invariant start chain place h)
    (went (board_of start) c.list_action.new.enc c.list_action.new.board.slots.items _ c.list_action.result _ c.in_ok-list_action.was (c.list_action.ensures start chain place (c.loop-a.invariant start chain place h).turning))

pub returns : goal.returns
returns c start chain place h =
    let e : length c.args.enc.now.actions ≡ action_count start.task = (made_at (board_of start) c.args.enc.now c.args.board.now.slots.items h.table.takers.ready.at).actions in
    actions_all start (c.loop-a.enc, c.loop-a.board.slots.items) chain (map context_rule_of c.args.rules.now.items) (map context_rule_of c.loop-a.rules.items) c.args.advance.stage c.args.advance.next c.loop-a.a (omega (arith, c.requires.actions)) (c.loop-a.invariant start chain place h)
