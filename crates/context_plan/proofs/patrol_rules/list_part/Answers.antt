use Rattle.std.proofs.Common.{◌≡◌, ◌∙◌, ◌+◌, ◌<◌, ap, arith, length, map, suc, sym}
use Rattle.std.proofs.lemmas.Result.{err_from_is_err_and}
use Rattle.slot_board.proofs.BoardSlots.{made_at, passed, same_actions, went}
use Rattle.task_core.specs.Tasks.{action_count}
use Rattle.plan_rules.specs.Rules.{context_rule_of}
use Rattle.plan_theory.specs.ContextRules.{action_rules}
use Rattle.plan_theory.specs.PatrolPrinted.{patrol_states}
use Rattle.context_plan.specs.Chains.{visit_sets}
use Rattle.context_plan.specs.Scenes.{board_of, sys_of, takers_place}
use Rattle.context_plan.proofs.VisitRules.{lists_all, lists_more, lists_none}
use Rattle.context_plan.proofs.patrol_rules.list_part.Goals as goal

pub loop-a-init : goal.loop-a-init
loop-a-init c start conds n goes h =
    lists_none start conds (c.args.enc.now, c.args.board.now.slots.items) (map context_rule_of c.args.rules.now.items) (action_rules (sys_of start) (patrol_states (sys_of start) (visit_sets conds)) (suc c.args.turn.visit) c.args.turn.next) 0 h

pub list_taken-requires-clause-ready : goal.list_taken-requires-clause-ready
list_taken-requires-clause-ready c =
    let start = c.requires.ready.0 in
    let conds = c.requires.ready.1 in
    let n = c.requires.ready.2 in
    let goes = c.requires.ready.3 in
    let h = c.requires.ready.4 in
    let inv = c.loop-a.invariant start conds n goes h in
    let less = (let l : c.args.turn.visit < start.stages = omega (arith, n, c.requires.visit) in l) in
    let acts = (made_at (board_of start) c.args.enc.now c.args.board.now.slots.items h.patrol.ready.at).actions in
    let place = c.takers_at-takers.ensures ∙ ap (λ k. takers_place k c.args.patrol.visits c.args.turn.visit) (c.requires.actions ∙ acts) ∙ ap (λ k. takers_place (action_count start.task) k c.args.turn.visit) (sym n) in
    (start, conds, less, place, inv.table)

pub list_taken-requires-clause-action : goal.list_taken-requires-clause-action
list_taken-requires-clause-action c =
    let start = c.requires.ready.0 in
    let conds = c.requires.ready.1 in
    let n = c.requires.ready.2 in
    let goes = c.requires.ready.3 in
    let h = c.requires.ready.4 in
    let inv = c.loop-a.invariant start conds n goes h in
    let e : length c.loop-a.enc.actions ≡ length c.args.enc.now.actions = same_actions (board_of start) c.args.enc.now c.loop-a.enc c.args.board.now.slots.items c.loop-a.board.slots.items h.patrol.ready.at inv.table.patrol.ready.at in omega (arith, c.requires.actions)

pub returns-in_err-list_taken : goal.returns-in_err-list_taken
returns-in_err-list_taken c start conds n goes h =
    let inv = c.loop-a.invariant start conds n goes h in
    let less = (let l : c.args.turn.visit < start.stages = omega (arith, n, c.requires.visit) in l) in
    let acts = (made_at (board_of start) c.args.enc.now c.args.board.now.slots.items h.patrol.ready.at).actions in
    let place = c.takers_at-takers.ensures ∙ ap (λ k. takers_place k c.args.patrol.visits c.args.turn.visit) (c.requires.actions ∙ acts) ∙ ap (λ k. takers_place (action_count start.task) k c.args.turn.visit) (sym n) in
    passed (board_of start) c.list_taken.new.enc c.list_taken.new.board.slots.items _ _ c.list_taken.result c.from_residual.result _ c.in_err-list_taken.was (err_from_is_err_and c.from_residual.result c.from_residual.ensures.1) (c.list_taken.ensures start conds less place goes inv.table)

pub loop-a-preserved : goal.loop-a-preserved
loop-a-preserved c start conds n goes h =
    let inv = c.loop-a.invariant start conds n goes h in
    let less = (let l : c.args.turn.visit < start.stages = omega (arith, n, c.requires.visit) in l) in
    let acts = (made_at (board_of start) c.args.enc.now c.args.board.now.slots.items h.patrol.ready.at).actions in
    let place = c.takers_at-takers.ensures ∙ ap (λ k. takers_place k c.args.patrol.visits c.args.turn.visit) (c.requires.actions ∙ acts) ∙ ap (λ k. takers_place (action_count start.task) k c.args.turn.visit) (sym n) in
    lists_more start conds (c.loop-a.enc, c.loop-a.board.slots.items) (c.list_taken.new.enc, c.list_taken.new.board.slots.items) (map context_rule_of c.args.rules.now.items) (map context_rule_of c.loop-a.rules.items) (map context_rule_of c.list_taken.new.rules.items) (action_rules (sys_of start) (patrol_states (sys_of start) (visit_sets conds)) (suc c.args.turn.visit) c.args.turn.next) 0 c.loop-a.a c.loop-a.a (let e : c.loop-a.a ≡ 0 + c.loop-a.a = omega arith in e) inv (went (board_of start) c.list_taken.new.enc c.list_taken.new.board.slots.items _ c.list_taken.result _ c.in_ok-list_taken.was (c.list_taken.ensures start conds less place goes inv.table))

pub returns : goal.returns
returns c start conds n goes h =
    let inv = c.loop-a.invariant start conds n goes h in
    let acts = (made_at (board_of start) c.args.enc.now c.args.board.now.slots.items h.patrol.ready.at).actions in
    lists_all start conds (c.loop-a.enc, c.loop-a.board.slots.items) (map context_rule_of c.args.rules.now.items) (map context_rule_of c.loop-a.rules.items) (action_rules (sys_of start) (patrol_states (sys_of start) (visit_sets conds)) (suc c.args.turn.visit) c.args.turn.next) 0 c.loop-a.a (action_count start.task) (let e : length c.args.enc.now.actions ≡ action_count start.task = acts in omega (arith, c.requires.actions)) inv
