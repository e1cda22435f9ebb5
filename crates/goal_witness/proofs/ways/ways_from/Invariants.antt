-- All numbers to which fewer steps lead were visited; as many rounds as were made found a way.
use Rattle.std.proofs.Common.{◌≡◌, ◌↔◌, ◌+◌, ◌<◌, ◌≤◌, ℕ}
use Rattle.exec_graph.specs.Values.{graph_size}
use Rattle.goal_witness.specs.Zones.{next_in}
use Rattle.plan_check.specs.Walks.{IsMarked}
use Rattle.plan_witness.specs.Ways.{IsRound, at, far, far_count}
use Rattle.goal_witness.proofs.ways.ways_from.Given as goal

abbrev pub invariant-loop-now : goal.invariant-loop-now
invariant-loop-now g l = record {
  round : IsRound (graph_size l.zone.graph.now) (next_in l.zone.graph.now l.zone.inside.now) l.ways.lengths.items l.ways.before.items l.now 0;
  starts : (i : ℕ) → i < graph_size l.zone.graph.now → IsMarked l.starts i ↔ (at l.ways.lengths.items i ≡ 0);
  reached : (i : ℕ) → i < graph_size l.zone.graph.now → at l.ways.lengths.items i < far → at l.ways.lengths.items i ≤ l.now;
  few : l.now + far_count l.ways.lengths.items ≤ graph_size l.zone.graph.now;
}

abbrev pub decreases-loop-now : goal.decreases-loop-now
decreases-loop-now g l = far_count l.ways.lengths.items
