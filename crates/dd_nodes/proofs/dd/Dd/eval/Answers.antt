-- The walk goes to the child whose function is that of the node at the bits, and ends at a
-- constant.
use Rattle.std.proofs.Common.{◌≡◌, ◌∙◌, sym, ap, ◌<◌, ◌+◌, length, arith, Some}
use Rattle.dd_nodes.specs.NodeList.{values_of_bits, node_at, next_from, next, function}
use Rattle.dd_nodes.proofs.NodeLemmas.{node_place, next_lower, function_next, function_without_node}
use Rattle.dd_nodes.proofs.dd.Dd.eval.Goals as goal

pub loop-node-preserved : goal.loop-node-preserved
loop-node-preserved c =
    let nodes = c.args.self.now.nodes in
    let values = values_of_bits c.args.bits.now in
    let at = c.loop-node.at.0 in
    let node = c.in-Some.node in
    let table = c.node.ensures.table in
    let there : node_at nodes at ≡ Some node = sym c.in-Some.ensures.node in
    let within : at < length nodes + 2 = (node_place nodes at node there).1 in
    let lower : next nodes values at < at = next_lower nodes c.args.self.now.vars table.reduced values at node there in
    let is : c.child-at.result.0 ≡ next nodes values at = c.child-at.ensures ∙ sym (ap (next_from values at) there) in
    record {
      in_table = omega arith;
      same = ap (λ m. function nodes m values) is ∙ sym (function_next nodes c.args.self.now.vars table.reduced at node values there) ∙ c.loop-node.invariant.same;
    }

pub returns : goal.returns
returns c =
    sym (function_without_node c.args.self.now.nodes c.loop-node.at.0 (values_of_bits c.args.bits.now) (sym c.in_default.ensures.node))
    ∙ c.loop-node.invariant.same
