-- The numbers so far to which a way is known.
use Rattle.std.proofs.Common.{◌≡◌, nat_lt}
use Rattle.std.specs.List.{filter, range_with_len}
use Rattle.plan_witness.specs.Ways.{at, far}
use Rattle.plan_witness.proofs.onward.reached_numbers.Given as goal

abbrev pub invariant-loop-i : goal.invariant-loop-i
invariant-loop-i l = l.numbers.items ≡ filter (λ i. nat_lt (at l.ways.lengths.items i) far) (range_with_len 0 l.i)
