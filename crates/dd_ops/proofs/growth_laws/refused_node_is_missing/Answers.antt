use Rattle.std.proofs.Common.{[], ◌∷◌, refl}
use Rattle.dd_nodes.specs.NodeList.{function}
use Rattle.dd_ops.specs.Operations.{variable, ite_of}
use Rattle.dd_nodes.proofs.Dependence.{sub_self}
use Rattle.dd_ops.proofs.GrowthParts.{part_only}
use Rattle.dd_ops.proofs.GrowthSteps.{lacks_made}
use Rattle.dd_ops.proofs.growth_laws.refused_node_is_missing.Goals as goal

pub returns : goal.returns
returns c vars nodes node reduced in_range differ lacks lo hi lo_below hi_below =
    let part = ite_of (variable node.var) (function nodes node.hi.0) (function nodes node.lo.0) in
    lacks_made vars (part ∷ []) nodes node part reduced in_range differ lacks lo hi lo_below hi_below (λ values. refl) (part_only vars part part (sub_self vars part))
