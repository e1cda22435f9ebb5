-- The walk stays in the table and keeps the function at the bits; each step lowers the number.
use Rattle.std.proofs.Common.{◌≡◌}
use Rattle.dd_nodes.specs.NodeList.{IsNumber, function, values_of_bits}
use Rattle.dd_nodes.proofs.dd.Dd.eval.Given as goal

abbrev pub invariant-loop-node : goal.invariant-loop-node
invariant-loop-node l = record {
  in_table : IsNumber l.self.nodes l.at.0;
  same : function l.self.nodes l.at.0 (values_of_bits l.bits) ≡ function l.self.nodes l.fn.f.0 (values_of_bits l.bits);
}

abbrev pub decreases-loop-node : goal.decreases-loop-node
decreases-loop-node l = l.at.0
