-- The places so far are undone, where the numbers have an order.
use Rattle.std.proofs.Common.{◌≡◌, ℕ, ◌<◌, length}
use Rattle.dd_sets.specs.Orders.{at_place, HasOrder}
use Rattle.dd_sets.proofs.order.turned_round.Given as goal

abbrev pub invariant-loop-place : goal.invariant-loop-place
invariant-loop-place l = record {
  count : length l.turned.items ≡ length l.numbers;
  undone : HasOrder l.numbers → (k : ℕ) → k < l.place → at_place l.turned.items (at_place l.numbers k) ≡ k;
}
