-- The zeros so far.
use Rattle.std.proofs.Common.{◌≡◌, ℕ, length}
use Rattle.plan_witness.specs.Ways.{at}
use Rattle.plan_witness.proofs.heights.zeros.Given as goal

abbrev pub invariant-loop-i : goal.invariant-loop-i
invariant-loop-i l = record {
  count : length l.heights.items ≡ l._i;
  zeros : (i : ℕ) → at l.heights.items i ≡ 0;
}
