use Rattle.plan_theory.proofs.NoPatrol.{none_without_cover}
use Rattle.plan_theory.proofs.patrol_laws.no_patrol_plan_without_cover.Goals as goal

pub returns : goal.returns
returns c = record { none = none_without_cover }
