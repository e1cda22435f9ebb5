use Rattle.std.proofs.Common.{◌≡◌, ◌+◌, arith, length, map, suc}
use Rattle.std.proofs.lemmas.Result.{err_from_is_err_and}
use Rattle.slot_board.proofs.BoardSlots.{passed, same_actions, went}
use Rattle.context_plan.specs.Scenes.{board_of}
use Rattle.plan_rules.specs.Rules.{context_rule_of}
use Rattle.plan_theory.specs.ContextRules.{rules_in_context}
use Rattle.plan_theory.specs.PatrolPrinted.{patrol_nexts, patrol_states}
use Rattle.context_plan.specs.Chains.{visit_sets}
use Rattle.context_plan.specs.Scenes.{sys_of}
use Rattle.context_plan.proofs.VisitRules.{lists_more, lists_none, patrol_listed}
use Rattle.context_plan.proofs.patrol_rules.list_visits.Goals as goal

pub loop-visit-init : goal.loop-visit-init
loop-visit-init c start conds n h =
    lists_none start conds (c.args.enc.now, c.args.board.now.slots.items) (map context_rule_of c.args.rules.now.items) (rules_in_context (sys_of start) (patrol_states (sys_of start) (visit_sets conds)) (patrol_nexts c.args.patrol.visits)) 1 h

pub list_visit-requires-clause-ready : goal.list_visit-requires-clause-ready
list_visit-requires-clause-ready c =
    let start = c.requires.ready.0 in
    let conds = c.requires.ready.1 in
    let n = c.requires.ready.2 in
    let h = c.requires.ready.3 in
    let inv = c.loop-visit.invariant start conds n h in
    (start, conds, n, inv.table)

pub list_visit-requires-clause-actions : goal.list_visit-requires-clause-actions
list_visit-requires-clause-actions c =
    let start = c.requires.ready.0 in
    let conds = c.requires.ready.1 in
    let n = c.requires.ready.2 in
    let h = c.requires.ready.3 in
    let inv = c.loop-visit.invariant start conds n h in
    let e : length c.loop-visit.enc.actions ≡ length c.args.enc.now.actions = same_actions (board_of start) c.args.enc.now c.loop-visit.enc c.args.board.now.slots.items c.loop-visit.board.slots.items h.patrol.ready.at inv.table.patrol.ready.at in omega (arith, c.requires.actions)

pub returns-in_err-list_visit : goal.returns-in_err-list_visit
returns-in_err-list_visit c start conds n h =
    let inv = c.loop-visit.invariant start conds n h in
    passed (board_of start) c.list_visit.new.enc c.list_visit.new.board.slots.items _ _ c.list_visit.result c.from_residual.result _ c.in_err-list_visit.was (err_from_is_err_and c.from_residual.result c.from_residual.ensures.1) (c.list_visit.ensures start conds n inv.table)

pub loop-visit-preserved : goal.loop-visit-preserved
loop-visit-preserved c start conds n h =
    let inv = c.loop-visit.invariant start conds n h in
    lists_more start conds (c.loop-visit.enc, c.loop-visit.board.slots.items) (c.list_visit.new.enc, c.list_visit.new.board.slots.items) (map context_rule_of c.args.rules.now.items) (map context_rule_of c.loop-visit.rules.items) (map context_rule_of c.list_visit.new.rules.items) (rules_in_context (sys_of start) (patrol_states (sys_of start) (visit_sets conds)) (patrol_nexts c.args.patrol.visits)) 1 c.loop-visit.visit (suc c.loop-visit.visit) (let e : suc c.loop-visit.visit ≡ 1 + c.loop-visit.visit = omega arith in e) inv (went (board_of start) c.list_visit.new.enc c.list_visit.new.board.slots.items _ c.list_visit.result _ c.in_ok-list_visit.was (c.list_visit.ensures start conds n inv.table))

pub returns : goal.returns
returns c start conds n h =
    let inv = c.loop-visit.invariant start conds n h in
    patrol_listed start conds (c.loop-visit.enc, c.loop-visit.board.slots.items) (map context_rule_of c.args.rules.now.items) (map context_rule_of c.loop-visit.rules.items) c.args.patrol.visits c.loop-visit.visit n (omega arith) inv
