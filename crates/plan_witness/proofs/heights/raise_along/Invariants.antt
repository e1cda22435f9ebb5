-- Some walk from each number has as many steps as its height says.
use Rattle.exec_graph.specs.Values.{followers_at, graph_size}
use Rattle.plan_witness.specs.Heights.{AreAttained}
use Rattle.plan_witness.proofs.heights.raise_along.Given as goal

abbrev pub invariant-loop-number : goal.invariant-loop-number
invariant-loop-number g l = AreAttained (graph_size l.graph) (followers_at l.graph) l.heights.items
