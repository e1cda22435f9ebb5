-- No follower so far is one step lower.
use Rattle.std.proofs.Common.{◌≡◌, ◌<◌, ◌+◌, ℕ, slice_index_or}
use Rattle.exec_graph.specs.Values.{followers_at}
use Rattle.plan_witness.specs.Ways.{at}
use Rattle.plan_witness.proofs.heights.first_below.Given as goal

abbrev pub invariant-loop-k : goal.invariant-loop-k
invariant-loop-k g l = (m : ℕ) → m < l.k → at l.heights (slice_index_or (followers_at l.graph l.number) m 0) + 1 ≡ at l.heights l.number → ⊥
