use Rattle.std.proofs.Common.{◌≡◌, ℕ, arith, length, map, subst, suc}
use Rattle.std.proofs.lemmas.Result.{err_from_is_err_and}
use Rattle.slot_board.proofs.BoardSlots.{left_with, passed, same_actions, went}
use Rattle.context_plan.specs.Scenes.{board_of}
use Rattle.plan_rules.specs.Rules.{context_rule_of}
use Rattle.plan_theory.specs.ContextRules.{next_rules}
use Rattle.plan_theory.specs.PatrolPrinted.{patrol_nexts, patrol_states}
use Rattle.context_plan.specs.Chains.{visit_sets}
use Rattle.context_plan.specs.PatrolSteps.{ListsPatrol}
use Rattle.context_plan.specs.Scenes.{Left, sys_of}
use Rattle.context_plan.proofs.VisitRules.{two_listed}
use Rattle.context_plan.proofs.patrol_rules.list_two.Goals as goal

pub list_part-requires-clause-ready : goal.list_part-requires-clause-ready
list_part-requires-clause-ready c =
    let start = c.requires.ready.0 in
    let conds = c.requires.ready.1 in
    let n = c.requires.ready.2 in
    let early = c.requires.ready.3 in
    let h = c.requires.ready.5 in
    (start, conds, n, early, h)

pub returns-in_err-list_part : goal.returns-in_err-list_part
returns-in_err-list_part c start conds n early late nexts h =
    passed (board_of start) c.list_part.new.enc c.list_part.new.board.slots.items _ _ c.list_part.result c.from_residual.result _ c.in_err-list_part.was (err_from_is_err_and c.from_residual.result c.from_residual.ensures.1) (c.list_part.ensures start conds n early h)

pub list_part-requires-2-clause-ready : goal.list_part-requires-2-clause-ready
list_part-requires-2-clause-ready c =
    let start = c.requires.ready.0 in
    let conds = c.requires.ready.1 in
    let n = c.requires.ready.2 in
    let early = c.requires.ready.3 in
    let late = c.requires.ready.4 in
    let h = c.requires.ready.5 in
    let one = went (board_of start) c.list_part.new.enc c.list_part.new.board.slots.items _ c.list_part.result _ c.in_ok-list_part.was (c.list_part.ensures start conds n early h) in
    (start, conds, n, late, one.table)

pub list_part-requires-2-clause-actions : goal.list_part-requires-2-clause-actions
list_part-requires-2-clause-actions c =
    let start = c.requires.ready.0 in
    let conds = c.requires.ready.1 in
    let n = c.requires.ready.2 in
    let early = c.requires.ready.3 in
    let h = c.requires.ready.5 in
    let one = went (board_of start) c.list_part.new.enc c.list_part.new.board.slots.items _ c.list_part.result _ c.in_ok-list_part.was (c.list_part.ensures start conds n early h) in
    let e : length c.list_part.new.enc.actions ≡ length c.args.enc.now.actions = same_actions (board_of start) c.args.enc.now c.list_part.new.enc c.args.board.now.slots.items c.list_part.new.board.slots.items h.patrol.ready.at one.table.patrol.ready.at in omega (arith, c.requires.actions)

pub returns : goal.returns
returns c start conds n early late nexts h =
    let one = went (board_of start) c.list_part.new.enc c.list_part.new.board.slots.items _ c.list_part.result _ c.in_ok-list_part.was (c.list_part.ensures start conds n early h) in
    let after = subst (λ (visit : ℕ). Left start (c.list_part-2.new.enc, c.list_part-2.new.board.slots.items)
    (ListsPatrol start conds (c.list_part-2.new.enc, c.list_part-2.new.board.slots.items) (map context_rule_of c.list_part.new.rules.items) (map context_rule_of c.list_part-2.new.rules.items)
    (next_rules (sys_of start) (patrol_states (sys_of start) (visit_sets conds)) (suc visit) c.args.turns.second.next)) c.list_part-2.result) c.requires.same (c.list_part-2.ensures start conds n late one.table) in
    left_with (board_of start) c.list_part-2.new.enc c.list_part-2.new.board.slots.items _ _ c.list_part-2.result
    (λ z. two_listed start conds (c.list_part.new.enc, c.list_part.new.board.slots.items) (c.list_part-2.new.enc, c.list_part-2.new.board.slots.items) (map context_rule_of c.args.rules.now.items) (map context_rule_of c.list_part.new.rules.items) (map context_rule_of c.list_part-2.new.rules.items) (next_rules (sys_of start) (patrol_states (sys_of start) (visit_sets conds)) (suc c.args.turns.first.visit)) (patrol_nexts c.args.patrol.visits (suc c.args.turns.first.visit)) c.args.turns.first.next c.args.turns.second.next nexts one z)
    after
