use Rattle.plan_theory.proofs.ClassLayers.{layer-stable}
use Rattle.plan_theory.proofs.LeastBounds.{stands_still}
use Rattle.plan_theory.proofs.layer_laws.layers_stand_still.Goals as goal

pub returns-clause-later : goal.returns-clause-later
returns-clause-later c = λ class sys k j ok stable le v is. layer-stable class sys ok k stable j le v is

pub returns-clause-at_last : goal.returns-clause-at_last
returns-clause-at_last c = λ class sys. stands_still class sys
