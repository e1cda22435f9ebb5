use Rattle.plan_theory.proofs.RoundSteps.{rounds_shrink_to}
use Rattle.plan_theory.proofs.cyclic_laws.rounds_shrink.Goals as goal

pub returns : goal.returns
returns c = record { shrink = rounds_shrink_to }
