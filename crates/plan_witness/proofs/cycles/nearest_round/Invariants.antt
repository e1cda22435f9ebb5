-- The nearest so far.
use Rattle.std.proofs.Common.{◌≡◌, ◌<◌, ◌≤◌, ℕ}
use Rattle.std.specs.Option.{MatchOption}
use Rattle.exec_graph.specs.Values.{followers_at, graph_size}
use Rattle.plan_witness.specs.Ways.{IsOnRound, at, far}
use Rattle.plan_witness.proofs.cycles.nearest_round.Given as goal

abbrev pub invariant-loop-i : goal.invariant-loop-i
invariant-loop-i g l = record {
  least : (j : ℕ) → j < l.i → IsOnRound (followers_at l.graph) j → l.least ≤ at l.ways.lengths.items j;
  at_most : l.least ≤ far;
  found : MatchOption l.nearest (l.least ≡ far)
      (λ i. (at l.ways.lengths.items i ≡ l.least) × IsOnRound (followers_at l.graph) i × (i < graph_size l.graph) × (l.least < far));
}
