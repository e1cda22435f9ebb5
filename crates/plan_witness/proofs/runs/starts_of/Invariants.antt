-- The marks so far.
use Rattle.std.proofs.Common.{◌≡◌, ◌<◌, ℕ, false, nat_lt, length, slice_index_or}
use Rattle.plan_witness.proofs.runs.starts_of.Given as goal

abbrev pub invariant-loop-i : goal.invariant-loop-i
invariant-loop-i l = record {
  count : length l.marks.items ≡ l.i;
  marked : (k : ℕ) → k < l.i → slice_index_or l.marks.items k false ≡ nat_lt k l.graph.initials;
}
