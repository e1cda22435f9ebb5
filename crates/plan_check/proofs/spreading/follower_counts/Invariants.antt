-- The counts so far.
use Rattle.std.proofs.Common.{◌≡◌, ◌<◌, ℕ, length, slice_index_or}
use Rattle.exec_graph.specs.Values.{followers_at}
use Rattle.plan_check.proofs.spreading.follower_counts.Given as goal

abbrev pub invariant-loop-i : goal.invariant-loop-i
invariant-loop-i l = record {
  count : length l.counts.items ≡ l.i;
  each : (k : ℕ) → k < l.i → slice_index_or l.counts.items k 0 ≡ length (followers_at l.graph k);
}
