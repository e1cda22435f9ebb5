-- The marks so far.
use Rattle.std.proofs.Common.{ℕ, ◌<◌, ◌≡◌, ◌↔◌, length}
use Rattle.plan_witness.specs.Leading.{IsMarkedStart}
use Rattle.plan_check.specs.Walks.{IsMarked}
use Rattle.plan_witness.proofs.unreachable.starts_among.Given as goal

abbrev pub invariant-loop-i : goal.invariant-loop-i
invariant-loop-i l = record {
  count : length l.starts.items ≡ l.i;
  marked : (k : ℕ) → k < l.i → IsMarked l.starts.items k ↔ IsMarkedStart l.graph l.marks k;
}
