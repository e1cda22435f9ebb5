use Rattle.plan_check.proofs.VerdictLaws.{yes_solves}
use Rattle.plan_check.proofs.laws.yes_is_solution.Goals as goal

pub returns : goal.returns
returns c = yes_solves
