use Rattle.plan_theory.proofs.Survives.{none_without_cover}
use Rattle.plan_theory.proofs.cyclic_laws.no_cyclic_plan_without_cover.Goals as goal

pub returns : goal.returns
returns c = record { none = none_without_cover }
