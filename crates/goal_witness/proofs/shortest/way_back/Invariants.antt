-- The numbers so far are a way from the number to the last one.
use Rattle.std.proofs.Common.{◌≡◌, ◌<◌, ◌≤◌, ◌+◌, length}
use Rattle.exec_graph.specs.Values.{graph_size}
use Rattle.goal_witness.specs.Zones.{next_in}
use Rattle.plan_check.specs.Walks.{IsWalk, last_number}
use Rattle.plan_witness.specs.Ways.{at, far}
use Rattle.goal_witness.proofs.shortest.way_back.Given as goal

abbrev pub invariant-back : goal.invariant-back
invariant-back l = record {
  below : l.number < graph_size l.zone.graph.now;
  reached : at l.ways.lengths.items l.number < far;
  walk : IsWalk (next_in l.zone.graph.now l.zone.inside.now) l.number l.numbers.items;
  ends : last_number l.number l.numbers.items ≡ l.end;
  long : length l.numbers.items + at l.ways.lengths.items l.number ≤ at l.ways.lengths.items l.end;
}

abbrev pub decreases-back : goal.decreases-back
decreases-back l = at l.ways.lengths.items l.number
