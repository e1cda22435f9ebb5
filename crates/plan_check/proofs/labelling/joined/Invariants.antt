use Rattle.std.proofs.Common.{ℕ, ◌≡◌, ◌<◌, length}
use Rattle.plan_check.specs.Labels.{joins, mark_at}
use Rattle.plan_check.proofs.labelling.joined.Given as goal

abbrev pub invariant-loop-i : goal.invariant-loop-i
invariant-loop-i l = record {
  count : length l.marks.items ≡ l.i;
  each : (k : ℕ) → k < l.i → mark_at l.marks.items k ≡ joins l.join (mark_at l.left k) (mark_at l.right k);
}
