use Rattle.fair_theory.proofs.NoFairPlan.{none_without_cover}
use Rattle.fair_theory.proofs.laws.no_fair_plan_without_cover.Goals as goal

pub returns : goal.returns
returns c = record { none = none_without_cover }
