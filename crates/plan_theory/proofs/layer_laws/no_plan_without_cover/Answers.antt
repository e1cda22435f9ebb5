use Rattle.plan_theory.proofs.LeastBounds.{none_without_cover}
use Rattle.plan_theory.proofs.layer_laws.no_plan_without_cover.Goals as goal

pub returns : goal.returns
returns c = record { none = none_without_cover }
