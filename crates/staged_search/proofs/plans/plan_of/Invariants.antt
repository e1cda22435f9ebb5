-- The rules so far are of the task and of the plan's contexts.
use Rattle.std.proofs.Common.{map}
use Rattle.std.specs.Prelude.{All}
use Rattle.plan_rules.specs.Plans.{IsContextRuleOf}
use Rattle.plan_rules.specs.Rules.{context_rule_of}
use Rattle.task_core.specs.Tasks.{action_count, fluent_count}
use Rattle.staged_search.proofs.plans.plan_of.Given as goal

abbrev pub invariant-loop-act : goal.invariant-loop-act
invariant-loop-act l = record {
  each : All (IsContextRuleOf (fluent_count l.task) (action_count l.task) l.count) (map context_rule_of l.rules.items);
}
