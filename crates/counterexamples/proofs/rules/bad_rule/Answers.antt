use Rattle.std.proofs.Common.{sym, subst}
use Rattle.std.specs.List.{All}
use Rattle.task_core.specs.Tasks.{action_count, fluent_count}
use Rattle.rule_lookup.specs.RunRules.{IsRunRuleOf}
use Rattle.plan_rules.specs.Plans.{IsRuleOf}
use Rattle.plan_rules.specs.Rules.{context_rule_of, rule_of}
use Rattle.plan_rules.specs.declared.rules.AutoRule.{AutoRule}
use Rattle.plan_rules.specs.declared.rules.Rule.{Rule}
use Rattle.plan_witness.proofs.Counting.{auto_rules, table_rules}
use Rattle.counterexamples.proofs.rules.bad_rule.Goals as goal

pub bad_table_rule-requires-clause-rules : goal.bad_table_rule-requires-clause-rules
bad_table_rule-requires-clause-rules c =
    subst (All (λ (rule : Rule). IsRuleOf (fluent_count c.args.task.now) (action_count c.args.task.now) (rule_of rule))) (sym c.deref.ensures.value)
    (table_rules _ _ c.args.plan.now c.in-Table.table c.in-Table.is c.requires.plan)

pub bad_context_rule-requires-clause-rules : goal.bad_context_rule-requires-clause-rules
bad_context_rule-requires-clause-rules c =
    subst (All (λ (rule : AutoRule). IsRunRuleOf (fluent_count c.args.task.now) (action_count c.args.task.now) (context_rule_of rule))) (sym c.deref-in-Auto.ensures.value)
    (auto_rules _ _ c.args.plan.now c.in-Auto.auto c.in-Auto.is c.requires.plan)
