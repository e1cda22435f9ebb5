use Rattle.std.proofs.Common.{◌≡◌, ◌+◌, ◌<◌, arith, map, suc}
use Rattle.slot_board.proofs.BoardSlots.{left_with}
use Rattle.context_plan.specs.Scenes.{board_of}
use Rattle.plan_rules.specs.Rules.{context_rule_of}
use Rattle.plan_theory.specs.ContextRules.{next_rules}
use Rattle.plan_theory.specs.PatrolPrinted.{patrol_nexts, patrol_states}
use Rattle.context_plan.specs.Chains.{visit_sets}
use Rattle.context_plan.specs.Scenes.{sys_of}
use Rattle.context_plan.proofs.VisitRules.{inner_made, inner_nexts, inner_others, last_made, last_nexts, last_others, one_listed, only_goes, only_nexts}
use Rattle.context_plan.proofs.patrol_rules.list_visit.Goals as goal

pub list_two-requires-clause-ready : goal.list_two-requires-clause-ready
list_two-requires-clause-ready c =
    let start = c.requires.ready.0 in
    let conds = c.requires.ready.1 in
    let n = c.requires.ready.2 in
    let h = c.requires.ready.3 in
    (start, conds, n, inner_others start conds c.args.patrol.visits c.args.visit (c.args.visit + 1) n h (let e : c.args.visit + 1 ≡ suc c.args.visit = omega arith in e) (let l : suc c.args.visit < c.args.patrol.visits = omega (arith, c.if-context-patrol.true) in l), inner_made start conds c.args.patrol.visits c.args.visit (c.args.visit + 1 + 1) n h (let e : c.args.visit + 1 + 1 ≡ suc (suc c.args.visit) = omega arith in e) (let l : suc c.args.visit < c.args.patrol.visits = omega (arith, c.if-context-patrol.true) in l), h)

pub returns-then-context-patrol : goal.returns-then-context-patrol
returns-then-context-patrol c start conds n h =
    c.list_two.ensures start conds n (inner_others start conds c.args.patrol.visits c.args.visit (c.args.visit + 1) n h (let e : c.args.visit + 1 ≡ suc c.args.visit = omega arith in e) (let l : suc c.args.visit < c.args.patrol.visits = omega (arith, c.if-context-patrol.true) in l)) (inner_made start conds c.args.patrol.visits c.args.visit (c.args.visit + 1 + 1) n h (let e : c.args.visit + 1 + 1 ≡ suc (suc c.args.visit) = omega arith in e) (let l : suc c.args.visit < c.args.patrol.visits = omega (arith, c.if-context-patrol.true) in l)) (inner_nexts c.args.patrol.visits c.args.visit (c.args.visit + 1) (c.args.visit + 1 + 1) (let e : c.args.visit + 1 ≡ suc c.args.visit = omega arith in e) (let e : c.args.visit + 1 + 1 ≡ suc (suc c.args.visit) = omega arith in e) (let l : suc c.args.visit < c.args.patrol.visits = omega (arith, c.if-context-patrol.true) in l)) h

pub list_part-requires-clause-ready : goal.list_part-requires-clause-ready
list_part-requires-clause-ready c =
    let start = c.requires.ready.0 in
    let conds = c.requires.ready.1 in
    let n = c.requires.ready.2 in
    let h = c.requires.ready.3 in
    (start, conds, n, only_goes start conds c.args.patrol.visits c.args.visit n h (let e : suc c.args.visit ≡ c.args.patrol.visits = omega (arith, c.if-context-patrol.false, c.requires.visit) in e) (let e : c.args.patrol.visits ≡ 1 = omega (arith, c.if-patrol-eq1.true) in e), h)

pub returns-then-patrol-eq1 : goal.returns-then-patrol-eq1
returns-then-patrol-eq1 c start conds n h =
    left_with (board_of start) c.list_part.new.enc c.list_part.new.board.slots.items _ _ c.list_part.result
    (λ z. one_listed start conds (c.list_part.new.enc, c.list_part.new.board.slots.items) (map context_rule_of c.args.rules.now.items) (map context_rule_of c.list_part.new.rules.items) (next_rules (sys_of start) (patrol_states (sys_of start) (visit_sets conds)) (suc c.args.visit)) (patrol_nexts c.args.patrol.visits (suc c.args.visit)) 1 (only_nexts c.args.patrol.visits c.args.visit (let e : suc c.args.visit ≡ c.args.patrol.visits = omega (arith, c.if-context-patrol.false, c.requires.visit) in e) (let e : c.args.patrol.visits ≡ 1 = omega (arith, c.if-patrol-eq1.true) in e)) z)
    (c.list_part.ensures start conds n (only_goes start conds c.args.patrol.visits c.args.visit n h (let e : suc c.args.visit ≡ c.args.patrol.visits = omega (arith, c.if-context-patrol.false, c.requires.visit) in e) (let e : c.args.patrol.visits ≡ 1 = omega (arith, c.if-patrol-eq1.true) in e)) h)

pub list_two-requires-2-clause-ready : goal.list_two-requires-2-clause-ready
list_two-requires-2-clause-ready c =
    let start = c.requires.ready.0 in
    let conds = c.requires.ready.1 in
    let n = c.requires.ready.2 in
    let h = c.requires.ready.3 in
    (start, conds, n, last_made start conds c.args.patrol.visits c.args.visit n h (let e : suc c.args.visit ≡ c.args.patrol.visits = omega (arith, c.if-context-patrol.false, c.requires.visit) in e) (λ z. absurd (let e : c.args.patrol.visits ≡ 1 = z in omega (arith, c.if-patrol-eq1.false))), last_others start conds c.args.patrol.visits c.args.visit (c.args.visit + 1) n h (let e : c.args.visit + 1 ≡ suc c.args.visit = omega arith in e) (let e : suc c.args.visit ≡ c.args.patrol.visits = omega (arith, c.if-context-patrol.false, c.requires.visit) in e) (λ z. absurd (let e : c.args.patrol.visits ≡ 1 = z in omega (arith, c.if-patrol-eq1.false))), h)

pub returns : goal.returns
returns c start conds n h =
    c.list_two-2.ensures start conds n (last_made start conds c.args.patrol.visits c.args.visit n h (let e : suc c.args.visit ≡ c.args.patrol.visits = omega (arith, c.if-context-patrol.false, c.requires.visit) in e) (λ z. absurd (let e : c.args.patrol.visits ≡ 1 = z in omega (arith, c.if-patrol-eq1.false)))) (last_others start conds c.args.patrol.visits c.args.visit (c.args.visit + 1) n h (let e : c.args.visit + 1 ≡ suc c.args.visit = omega arith in e) (let e : suc c.args.visit ≡ c.args.patrol.visits = omega (arith, c.if-context-patrol.false, c.requires.visit) in e) (λ z. absurd (let e : c.args.patrol.visits ≡ 1 = z in omega (arith, c.if-patrol-eq1.false)))) (last_nexts c.args.patrol.visits c.args.visit (c.args.visit + 1) (let e : c.args.visit + 1 ≡ suc c.args.visit = omega arith in e) (let e : suc c.args.visit ≡ c.args.patrol.visits = omega (arith, c.if-context-patrol.false, c.requires.visit) in e) (λ z. absurd (let e : c.args.patrol.visits ≡ 1 = z in omega (arith, c.if-patrol-eq1.false)))) h
