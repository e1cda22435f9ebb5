use Rattle.std.proofs.Common.{subst}
use Rattle.task_core.specs.Tasks.{fluent_count}
use Rattle.plan_rules.specs.Advices.{AreCasesOf}
use Rattle.rule_lookup.specs.GuideRules.{next_value}
use Rattle.rule_lookup.proofs.rules.GuideNext.context_in.Goals as goal
use Rattle.plan_rules.proofs.CaseCubes.{cubes_of_cases}

pub context_in-requires-clause-in_task : goal.context_in-requires-clause-in_task
context_in-requires-clause-in_task c =
    cubes_of_cases (fluent_count c.args.task.now) c.in-ByCases.cases.cases.now
    (subst (λ o. AreCasesOf (fluent_count c.args.task.now) (next_value o)) c.in-ByCases.is c.requires.in_task)
