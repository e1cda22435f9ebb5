-- The law on functions, at a number's function, which depends on the table's variables alone.
use Rattle.std.proofs.Common.{is_some}
use Rattle.dd_nodes.specs.NodeList.{function}
use Rattle.dd_nodes.proofs.Dependence.{depends_number}
use Rattle.dd_ops.specs.Operations.{listed, replaced}
use Rattle.dd_ops.proofs.GrowthSubst.{grow_subst}
use Rattle.dd_ops.proofs.growth_laws.substitution_grows_within.Goals as goal

pub returns : goal.returns
returns c table is map n number =
    grow_subst table.vars table.nodes (function table.nodes n) (λ v. is_some (listed map v)) (replaced table.nodes map) (depends_number table.vars table.nodes is.reduced n)
