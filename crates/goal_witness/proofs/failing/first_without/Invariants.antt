-- The followers so far have a mark.
use Rattle.std.proofs.Common.{◌≡◌, ◌<◌, ℕ, true, slice_index_or}
use Rattle.exec_graph.specs.Values.{followers_at}
use Rattle.plan_check.specs.Labels.{mark_at}
use Rattle.goal_witness.proofs.failing.first_without.Given as goal

abbrev pub invariant-loop-k : goal.invariant-loop-k
invariant-loop-k g l = (m : ℕ) → m < l.k → mark_at l.marks (slice_index_or (followers_at l.graph l.number) m 0) ≡ true
