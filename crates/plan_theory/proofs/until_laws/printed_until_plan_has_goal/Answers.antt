use Rattle.plan_theory.proofs.UntilSound.{plan_solves}
use Rattle.plan_theory.proofs.until_laws.printed_until_plan_has_goal.Goals as goal

pub returns : goal.returns
returns c = record { solves = λ sys chain plan ok printed covered. plan_solves sys ok chain plan printed covered }
