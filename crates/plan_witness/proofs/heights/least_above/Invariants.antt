-- The height is above the followers so far, by one above some of them.
use Rattle.std.proofs.Common.{◌<◌, ◌≤◌, ◌+◌, ℕ, slice_index_or}
use Rattle.exec_graph.specs.Values.{followers_at}
use Rattle.plan_witness.specs.Heights.{IsOneBelow}
use Rattle.plan_witness.specs.Ways.{at}
use Rattle.plan_witness.proofs.heights.least_above.Given as goal

abbrev pub invariant-loop-k : goal.invariant-loop-k
invariant-loop-k g l = record {
  above : (m : ℕ) → m < l.k → at l.heights (slice_index_or (followers_at l.graph l.number) m 0) + 1 ≤ l.height;
  attained : 0 < l.height → (j : ℕ) × IsOneBelow (followers_at l.graph) l.heights l.number l.height j;
}
