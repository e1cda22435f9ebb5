use Rattle.plan_theory.proofs.ClassLayers.{layer-grows}
use Rattle.plan_theory.proofs.layer_laws.layers_grow.Goals as goal

pub returns : goal.returns
returns c = record { grow = layer-grows }
