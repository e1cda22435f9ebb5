use Rattle.std.proofs.Common.{subst}
use Rattle.task_core.specs.Tasks.{fluent_count}
use Rattle.plan_rules.specs.Advices.{AreCasesOf, onward_value}
use Rattle.plan_rules.proofs.CaseCubes.{cubes_of_cases}
use Rattle.plan_rules.proofs.following.context_in.Goals as goal

pub first_case-requires : goal.first_case-requires
first_case-requires c =
    cubes_of_cases (fluent_count c.args.task.now) c.in-ByCases.cases.now
    (subst (λ o. AreCasesOf (fluent_count c.args.task.now) (onward_value o)) c.in-ByCases.is c.requires)
