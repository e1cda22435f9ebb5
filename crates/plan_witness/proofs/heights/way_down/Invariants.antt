-- The numbers so far are a walk from the first to this one, as many steps down as it has.
use Rattle.std.proofs.Common.{◌≡◌, ◌<◌, ◌+◌, length}
use Rattle.exec_graph.specs.Values.{followers_at, graph_size}
use Rattle.plan_check.specs.Walks.{IsWalk, last_number}
use Rattle.plan_witness.specs.Ways.{at}
use Rattle.plan_witness.proofs.heights.way_down.Given as goal

abbrev pub invariant-down : goal.invariant-down
invariant-down g l = record {
  below : l.number < graph_size l.graph;
  walk : IsWalk (followers_at l.graph) l.start l.numbers.items;
  ends : last_number l.start l.numbers.items ≡ l.number;
  long : length l.numbers.items + at l.heights l.number ≡ at l.heights l.start;
}

abbrev pub decreases-down : goal.decreases-down
decreases-down g l = at l.heights l.number
