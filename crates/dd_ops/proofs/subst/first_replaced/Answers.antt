-- A number below the replaced variables is its own answer.
use Rattle.std.proofs.Common.{◌≡◌, ◌≤◌, ◌∙◌, Some, ap, sym, arith}
use Rattle.std.proofs.lemmas.Option.{same_Some}
use Rattle.dd_nodes.specs.declared.node.Node.{Node}
use Rattle.dd_nodes.specs.NodeList.{node_at}
use Rattle.dd_ops.proofs.ReplacedLemmas.{stays_own}
use Rattle.dd_ops.proofs.SubstLemmas.{replaced_constant}
use Rattle.dd_ops.proofs.subst.first_replaced.Goals as goal

pub returns-in_default-clause-stays : goal.returns-in_default-clause-stays
returns-in_default-clause-stays c = stays_own c.args.dd.now c.node.ensures.table c.args.images.now.map.now c.args.images.now.end c.requires.images.stay c.args.f.0 c.requires.number
    (λ (node : Node) (there : node_at c.args.dd.now.nodes c.args.f.0 ≡ Some node).
    let one : c.in-Some.node.var ≡ node.var = ap (λ (k : Node). k.var) (same_Some c.in-Some.node node (c.in-Some.ensures.node ∙ there)) in
    let far : c.args.images.now.end ≤ c.in-Some.node.var = omega (arith, c.if-node-images.false) in
    omega arith)

pub returns-in_default-2-clause-stays : goal.returns-in_default-2-clause-stays
returns-in_default-2-clause-stays c = replaced_constant c.args.dd.now.nodes c.args.images.now.map.now c.args.f.0 c.requires.number (sym c.in_default.ensures.node)
