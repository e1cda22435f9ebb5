use Rattle.plan_theory.proofs.PatrolSound.{plan_solves}
use Rattle.plan_theory.proofs.patrol_laws.printed_patrol_plan_has_goal.Goals as goal

pub returns : goal.returns
returns c = record { solves = λ sys visits plan ok some printed covered. plan_solves sys ok visits plan printed some covered }
