use Rattle.plan_check.specs.ContextVerdicts.{IsTrueAt}
use Rattle.plan_check.proofs.ContextLaws.{yes_met}
use Rattle.plan_check.proofs.laws.yes_is_met.Goals as goal

pub returns : goal.returns
returns c = λ sys plan goal. yes_met sys plan (IsTrueAt sys plan goal)
