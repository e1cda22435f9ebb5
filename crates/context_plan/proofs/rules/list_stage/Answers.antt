use Rattle.context_plan.proofs.RuleSteps.{stages_more}
use Rattle.context_plan.specs.Scenes.{board_of, takers_place}
use Rattle.plan_rules.specs.Rules.{context_rule_of}
use Rattle.slot_board.proofs.BoardSlots.{left_with, made_at, passed, same_actions, went}
use Rattle.std.proofs.Common.{◌≡◌, arith, length, sym, ap, ◌∙◌, map}
use Rattle.std.proofs.lemmas.Result.{err_from_is_err_and}
use Rattle.task_core.specs.Tasks.{action_count}
use Rattle.context_plan.proofs.rules.list_stage.Goals as goal

pub turn_states-requires-clause-ready : goal.turn_states-requires-clause-ready
turn_states-requires-clause-ready c =
    let start = c.requires.ready.0 in
    let chain = c.requires.ready.1 in
    let before = c.requires.ready.2 in
    let n = c.requires.ready.3 in
    let h = c.requires.ready.4 in
    (start, chain, n, h.table)

pub returns-in_err-turn_states : goal.returns-in_err-turn_states
returns-in_err-turn_states c start chain before n h =
    let p = err_from_is_err_and c.from_residual.result c.from_residual.ensures.1 in
    passed (board_of start) c.turn_states.new.enc c.turn_states.new.board.slots.items _ _ c.turn_states.result c.from_residual.result _ c.in_err-turn_states.was p (c.turn_states.ensures start chain n h.table)

pub list_actions-requires-clause-ready : goal.list_actions-requires-clause-ready
list_actions-requires-clause-ready c =
    let start = c.requires.ready.0 in
    let chain = c.requires.ready.1 in
    let before = c.requires.ready.2 in
    let n = c.requires.ready.3 in
    let h = c.requires.ready.4 in
    let r = went (board_of start) c.turn_states.new.enc c.turn_states.new.board.slots.items _ c.turn_states.result _ c.in_ok-turn_states.was (c.turn_states.ensures start chain n h.table) in
    let e : length c.args.enc.now.actions ≡ action_count start.task = (made_at (board_of start) c.args.enc.now c.args.board.now.slots.items h.table.takers.ready.at).actions in
    let takers : c.takers_at-takers.result ≡ takers_place (action_count start.task) start.stages c.args.advance.next = c.takers_at-takers.ensures ∙ ap (λ k. takers_place k c.args.counts.stages c.args.advance.next) (c.requires.actions ∙ e) ∙ ap (λ k. takers_place (action_count start.task) k c.args.advance.next) (sym n) in
    (start, chain, takers, r)

pub list_actions-requires-clause-actions : goal.list_actions-requires-clause-actions
list_actions-requires-clause-actions c =
    let start = c.requires.ready.0 in
    let chain = c.requires.ready.1 in
    let before = c.requires.ready.2 in
    let n = c.requires.ready.3 in
    let h = c.requires.ready.4 in
    let r = went (board_of start) c.turn_states.new.enc c.turn_states.new.board.slots.items _ c.turn_states.result _ c.in_ok-turn_states.was (c.turn_states.ensures start chain n h.table) in
    let e : length c.turn_states.new.enc.actions ≡ length c.args.enc.now.actions = same_actions (board_of start) c.args.enc.now c.turn_states.new.enc c.args.board.now.slots.items c.turn_states.new.board.slots.items h.table.takers.ready.at r.table.takers.ready.at in omega (arith, c.requires.actions)

pub returns : goal.returns
returns c start chain before n h =
    let r = went (board_of start) c.turn_states.new.enc c.turn_states.new.board.slots.items _ c.turn_states.result _ c.in_ok-turn_states.was (c.turn_states.ensures start chain n h.table) in
    let e : length c.args.enc.now.actions ≡ action_count start.task = (made_at (board_of start) c.args.enc.now c.args.board.now.slots.items h.table.takers.ready.at).actions in
    let takers : c.takers_at-takers.result ≡ takers_place (action_count start.task) start.stages c.args.advance.next = c.takers_at-takers.ensures ∙ ap (λ k. takers_place k c.args.counts.stages c.args.advance.next) (c.requires.actions ∙ e) ∙ ap (λ k. takers_place (action_count start.task) k c.args.advance.next) (sym n) in
    left_with (board_of start) c.list_actions.new.enc c.list_actions.new.board.slots.items _ _ c.list_actions.result
    (λ more. stages_more start (c.list_actions.new.enc, c.list_actions.new.board.slots.items) chain before (map context_rule_of c.args.rules.now.items) (map context_rule_of c.list_actions.new.rules.items) c.args.advance.stage c.args.advance.next c.requires.stage h.listed more)
    (c.list_actions.ensures start chain takers r)
