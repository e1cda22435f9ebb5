-- The marks so far.
use Rattle.std.proofs.Common.{ℕ, ◌<◌, ◌≡◌, ◌↔◌, length}
use Rattle.std.specs.List.{Contains}
use Rattle.exec_graph.specs.Values.{followers_at}
use Rattle.plan_check.specs.Walks.{IsMarked}
use Rattle.plan_witness.proofs.cycles.follower_marks.Given as goal

abbrev pub invariant-loop-i : goal.invariant-loop-i
invariant-loop-i g l = record {
  count : length l.marks.items ≡ l.i;
  marked : (k : ℕ) → k < l.i → IsMarked l.marks.items k ↔ Contains (followers_at l.graph l.number) k;
}
