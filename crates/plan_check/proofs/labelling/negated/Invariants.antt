use Rattle.std.proofs.Common.{ℕ, ◌≡◌, ◌<◌, not, length}
use Rattle.plan_check.specs.Labels.{mark_at}
use Rattle.plan_check.proofs.labelling.negated.Given as goal

abbrev pub invariant-loop-i : goal.invariant-loop-i
invariant-loop-i l = record {
  count : length l.marks.items ≡ l.i;
  each : (k : ℕ) → k < l.i → mark_at l.marks.items k ≡ not (mark_at l.label k);
}
