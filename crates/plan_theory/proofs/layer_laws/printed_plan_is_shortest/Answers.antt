use Rattle.plan_theory.proofs.LeastBounds.{strong_is_shortest, weak_is_shortest}
use Rattle.plan_theory.proofs.layer_laws.printed_plan_is_shortest.Goals as goal

pub returns-clause-strong : goal.returns-clause-strong
returns-clause-strong c = strong_is_shortest

pub returns-clause-weak : goal.returns-clause-weak
returns-clause-weak c = weak_is_shortest
