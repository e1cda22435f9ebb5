-- The ranks so far.
use Rattle.std.proofs.Common.{◌≡◌, ◌<◌, ◌^◌, ℕ, length}
use Rattle.plan_witness.specs.Ways.{at}
use Rattle.plan_witness.proofs.levels.wide_ranks.Given as goal

abbrev pub invariant-loop-i : goal.invariant-loop-i
invariant-loop-i l = record {
  count : length l.wide.items ≡ l.i;
  small : (i : ℕ) → at l.wide.items i < 2 ^ 32;
}
