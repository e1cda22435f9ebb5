-- The marks so far.
use Rattle.std.proofs.Common.{ℕ, ◌<◌, ◌≡◌, ◌↔◌, length}
use Rattle.plan_check.specs.Walks.{IsMarked}
use Rattle.plan_witness.proofs.cycles.only_mark.Given as goal

abbrev pub invariant-loop-i : goal.invariant-loop-i
invariant-loop-i l = record {
  count : length l.marks.items ≡ l.i;
  marked : (k : ℕ) → k < l.i → IsMarked l.marks.items k ↔ (k ≡ l.number);
}
