use Rattle.std.proofs.Common.{◌≡◌, ◌∙◌, ◌++◌, ap, arith, length, map, sym}
use Rattle.std.proofs.lemmas.Result.{err_from_is_err_and}
use Rattle.slot_board.proofs.BoardSlots.{passed, same_actions, went}
use Rattle.context_plan.specs.Scenes.{board_of}
use Rattle.plan_rules.specs.Rules.{context_rule_of}
use Rattle.plan_theory.specs.PatrolPrinted.{patrol_rules}
use Rattle.context_plan.specs.Chains.{visit_sets}
use Rattle.context_plan.specs.Scenes.{sys_of}
use Rattle.context_plan.proofs.PatrolPlan.{patrol_plan_is, patrol_table}
use Rattle.context_plan.proofs.VisitRules.{visits_many}
use Rattle.context_plan.proofs.patrol.write_visits.Goals as goal

pub take_visits-requires-clause-ready : goal.take_visits-requires-clause-ready
take_visits-requires-clause-ready c =
    let start = c.requires.ready.0 in
    let conds = c.requires.ready.1 in
    let n = c.requires.ready.2 in
    let h = c.requires.ready.3 in
    (start, conds, n, h, c.requires.ready.4, c.requires.ready.5)

pub returns-in_err-take_visits-clause-left : goal.returns-in_err-take_visits-clause-left
returns-in_err-take_visits-clause-left c start conds n h covered noted =
    passed (board_of start) c.take_visits.new.enc c.take_visits.new.board.slots.items _ _ c.take_visits.result c.from_residual.result _ c.in_err-take_visits.was (err_from_is_err_and c.from_residual.result c.from_residual.ensures.1) (c.take_visits.ensures start conds n h covered noted)

pub list_visits-requires-clause-ready : goal.list_visits-requires-clause-ready
list_visits-requires-clause-ready c =
    let start = c.requires.ready.0 in
    let conds = c.requires.ready.1 in
    let n = c.requires.ready.2 in
    let h = c.requires.ready.3 in
    let covered = c.requires.ready.4 in
    let noted = c.requires.ready.5 in
    let t = went (board_of start) c.take_visits.new.enc c.take_visits.new.board.slots.items _ c.take_visits.result _ c.in_ok-take_visits.was (c.take_visits.ensures start conds n h covered noted) in
    let table = patrol_table start conds (c.take_visits.new.enc, c.take_visits.new.board.slots.items) t covered in
    (start, conds, n, table)

pub list_visits-requires-clause-actions : goal.list_visits-requires-clause-actions
list_visits-requires-clause-actions c =
    let start = c.requires.ready.0 in
    let conds = c.requires.ready.1 in
    let n = c.requires.ready.2 in
    let h = c.requires.ready.3 in
    let covered = c.requires.ready.4 in
    let noted = c.requires.ready.5 in
    let t = went (board_of start) c.take_visits.new.enc c.take_visits.new.board.slots.items _ c.take_visits.result _ c.in_ok-take_visits.was (c.take_visits.ensures start conds n h covered noted) in
    let e : length c.take_visits.new.enc.actions ≡ length c.args.enc.now.actions = same_actions (board_of start) c.args.enc.now c.take_visits.new.enc c.args.board.now.slots.items c.take_visits.new.board.slots.items h.ready.at t.ready.at in omega (arith, c.requires.actions)

pub returns-in_err-list_visits-clause-left : goal.returns-in_err-list_visits-clause-left
returns-in_err-list_visits-clause-left c start conds n h covered noted =
    let t = went (board_of start) c.take_visits.new.enc c.take_visits.new.board.slots.items _ c.take_visits.result _ c.in_ok-take_visits.was (c.take_visits.ensures start conds n h covered noted) in
    let table = patrol_table start conds (c.take_visits.new.enc, c.take_visits.new.board.slots.items) t covered in
    passed (board_of start) c.list_visits.new.enc c.list_visits.new.board.slots.items _ _ c.list_visits.result c.from_residual-in_err-list_visits.result _ c.in_err-list_visits.was (err_from_is_err_and c.from_residual-in_err-list_visits.result c.from_residual-in_err-list_visits.ensures.1) (c.list_visits.ensures start conds n table)

pub returns-clause-left : goal.returns-clause-left
returns-clause-left c start conds n h covered noted =
    let t = went (board_of start) c.take_visits.new.enc c.take_visits.new.board.slots.items _ c.take_visits.result _ c.in_ok-take_visits.was (c.take_visits.ensures start conds n h covered noted) in
    let table = patrol_table start conds (c.take_visits.new.enc, c.take_visits.new.board.slots.items) t covered in
    let l = went (board_of start) c.list_visits.new.enc c.list_visits.new.board.slots.items _ c.list_visits.result _ c.in_ok-list_visits.was (c.list_visits.ensures start conds n table) in
    l.table.patrol.ready.at

pub returns-clause-plan : goal.returns-clause-plan
returns-clause-plan c start conds n h covered noted =
    let t = went (board_of start) c.take_visits.new.enc c.take_visits.new.board.slots.items _ c.take_visits.result _ c.in_ok-take_visits.was (c.take_visits.ensures start conds n h covered noted) in
    let table = patrol_table start conds (c.take_visits.new.enc, c.take_visits.new.board.slots.items) t covered in
    let l = went (board_of start) c.list_visits.new.enc c.list_visits.new.board.slots.items _ c.list_visits.result _ c.in_ok-list_visits.was (c.list_visits.ensures start conds n table) in
    patrol_plan_is start.task (visit_sets conds) _ (let many = visits_many start conds (c.take_visits.new.enc, c.take_visits.new.board.slots.items) c.args.patrol.visits n table in let s = h.some in omega (arith, n)) (let many = visits_many start conds (c.take_visits.new.enc, c.take_visits.new.board.slots.items) c.args.patrol.visits n table in omega (arith, c.requires.few)) covered (sym (visits_many start conds (c.take_visits.new.enc, c.take_visits.new.board.slots.items) c.args.patrol.visits n table))
    (l.listed ∙ ap (λ rules. map context_rule_of rules ++ patrol_rules (sys_of start) (visit_sets conds)) c.new-rules.ensures.items)
