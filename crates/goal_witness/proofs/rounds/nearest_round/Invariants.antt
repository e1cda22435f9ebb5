-- The nearest so far.
use Rattle.std.proofs.Common.{◌≡◌, ◌<◌, ◌≤◌, ℕ}
use Rattle.std.specs.Option.{MatchOption}
use Rattle.exec_graph.specs.Values.{graph_size}
use Rattle.plan_witness.specs.Ways.{IsOnRound, at, far}
use Rattle.goal_witness.specs.Zones.{next_in}
use Rattle.goal_witness.proofs.rounds.nearest_round.Given as goal

abbrev pub invariant-loop-i : goal.invariant-loop-i
invariant-loop-i g l = record {
  least : (j : ℕ) → j < l.i → IsOnRound (next_in l.zone.graph.now l.zone.inside.now) j → l.least ≤ at l.ways.lengths.items j;
  at_most : l.least ≤ far;
  found : MatchOption l.nearest (l.least ≡ far)
      (λ i. (at l.ways.lengths.items i ≡ l.least) × IsOnRound (next_in l.zone.graph.now l.zone.inside.now) i × (i < graph_size l.zone.graph.now) × (l.least < far));
}
