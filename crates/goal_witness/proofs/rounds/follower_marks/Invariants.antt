-- The marks so far.
use Rattle.std.proofs.Common.{ℕ, ◌<◌, ◌≡◌, ◌↔◌, length}
use Rattle.std.specs.List.{Contains}
use Rattle.plan_check.specs.Walks.{IsMarked}
use Rattle.goal_witness.specs.Zones.{next_in}
use Rattle.goal_witness.proofs.rounds.follower_marks.Given as goal

abbrev pub invariant-loop-i : goal.invariant-loop-i
invariant-loop-i g l = record {
  count : length l.marks.items ≡ l.i;
  marked : (k : ℕ) → k < l.i → IsMarked l.marks.items k ↔ Contains (next_in l.zone.graph.now l.zone.inside.now l.number) k;
}
