use Rattle.plan_rules.proofs.Spelled.{one_plan}
use Rattle.plan_rules.proofs.laws.one_plan.Goals as goal

pub returns : goal.returns
returns c = one_plan
