use Rattle.std.proofs.Common.{sym, subst}
use Rattle.std.specs.List.{All}
use Rattle.task_core.specs.Tasks.{action_count, fluent_count}
use Rattle.plan_rules.specs.Plans.{IsRuleOf}
use Rattle.plan_rules.specs.Rules.{rule_of}
use Rattle.plan_rules.specs.declared.rules.Rule.{Rule}
use Rattle.plan_witness.proofs.Counting.{table_rules}
use Rattle.counterexamples.proofs.texts.is_recorded.Goals as goal

pub takes_first-requires : goal.takes_first-requires
takes_first-requires c =
    subst (All (λ (rule : Rule). IsRuleOf (fluent_count c.args.task.now) (action_count c.args.task.now) (rule_of rule))) (sym c.deref.ensures.value)
    (table_rules _ _ c.args.plan.now c.in-Table.table c.in-Table.is c.requires)
