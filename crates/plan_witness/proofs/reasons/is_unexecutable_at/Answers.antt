use Rattle.std.proofs.Common.{◌≡◌, ◌↔◌, List, map, true, sym, subst}
use Rattle.std.specs.List.{All}
use Rattle.task_core.specs.ContextPlans.{Configuration}
use Rattle.task_core.specs.States.{vector}
use Rattle.task_core.specs.Tasks.{action_count, fluent_count, system_of}
use Rattle.rule_lookup.specs.RunRules.{IsRunRuleOf}
use Rattle.plan_rules.specs.Denoted.{denoted_contexts}
use Rattle.plan_rules.specs.Plans.{IsRuleOf}
use Rattle.plan_rules.specs.Rules.{context_rule_of, plain_of, rule_of}
use Rattle.plan_rules.specs.declared.rules.AutoRule.{AutoRule}
use Rattle.plan_rules.specs.declared.rules.Rule.{Rule}
use Rattle.exec_graph.specs.Executions.{HasBadAction, HasBadRule, IsUnexecutableAt}
use Rattle.plan_witness.proofs.Counting.{auto_rules, table_rules}
use Rattle.plan_witness.proofs.reasons.is_unexecutable_at.Goals as goal

pub has_bad_rule-requires-clause-rules : goal.has_bad_rule-requires-clause-rules
has_bad_rule-requires-clause-rules c =
    subst (All (λ (rule : Rule). IsRuleOf (fluent_count c.args.task.now) (action_count c.args.task.now) (rule_of rule))) (sym c.deref.ensures.value)
    (table_rules _ _ c.args.plan.now c.in-Table.table c.in-Table.is c.requires.plan)

pub returns-in-Table : goal.returns-in-Table
returns-in-Table c =
    let sys = system_of c.args.task.now in
    let x : Configuration = record { state = vector (fluent_count c.args.task.now) c.args.state.now; context = c.args.context } in
    subst (λ p. (c.has_bad_rule.result ≡ true) ↔ IsUnexecutableAt sys (plain_of p) x) (sym c.in-Table.is)
    (subst (λ (rules : List Rule). (c.has_bad_rule.result ≡ true) ↔ HasBadRule sys (map rule_of rules) x.state) c.deref.ensures.value c.has_bad_rule.ensures)

pub has_bad_action-requires-clause-rules : goal.has_bad_action-requires-clause-rules
has_bad_action-requires-clause-rules c =
    subst (All (λ (rule : AutoRule). IsRunRuleOf (fluent_count c.args.task.now) (action_count c.args.task.now) (context_rule_of rule))) (sym c.deref-in-Auto.ensures.value)
    (auto_rules _ _ c.args.plan.now c.in-Auto.auto c.in-Auto.is c.requires.plan)

pub returns-in-Auto : goal.returns-in-Auto
returns-in-Auto c =
    let sys = system_of c.args.task.now in
    let x : Configuration = record { state = vector (fluent_count c.args.task.now) c.args.state.now; context = c.args.context } in
    subst (λ p. (c.has_bad_action.result ≡ true) ↔ IsUnexecutableAt sys (plain_of p) x) (sym c.in-Auto.is)
    (subst (λ (rules : List AutoRule). (c.has_bad_action.result ≡ true) ↔ HasBadAction sys (denoted_contexts (map context_rule_of rules)) x) c.deref-in-Auto.ensures.value c.has_bad_action.ensures)
