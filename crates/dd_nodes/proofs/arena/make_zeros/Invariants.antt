-- So many zeros have been pushed.
use Rattle.std.proofs.Common.{◌≡◌, replicate, vec_capacity, vec_len}
use Rattle.dd_nodes.proofs.arena.make_zeros.Given as goal

abbrev pub invariant-loop : goal.invariant-loop
invariant-loop l = record {
  zeros : l.numbers.items ≡ replicate l.counter 0;
  count : vec_len l.numbers ≡ l.counter;
  room : vec_capacity l.numbers ≡ vec_capacity l.fn.numbers;
}
