use Rattle.plan_theory.proofs.LeastBounds.{none_once_stable}
use Rattle.plan_theory.proofs.layer_laws.no_plan_once_stable.Goals as goal

pub returns : goal.returns
returns c = record { none = none_once_stable }
