-- Some walk from each number has as many steps as its height says.
use Rattle.exec_graph.specs.Values.{followers_at, graph_size}
use Rattle.plan_witness.specs.Heights.{AreAttained, room_left}
use Rattle.plan_witness.proofs.heights.heights_within.Given as goal

abbrev pub invariant-passes : goal.invariant-passes
invariant-passes g l = AreAttained (graph_size l.graph) (followers_at l.graph) l.heights.items

abbrev pub decreases-passes : goal.decreases-passes
decreases-passes g l = room_left l.bound l.heights.items
