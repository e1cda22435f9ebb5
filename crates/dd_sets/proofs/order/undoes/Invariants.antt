-- The places so far are led back to.
use Rattle.std.proofs.Common.{◌≡◌, ℕ, ◌<◌, length}
use Rattle.dd_sets.specs.Orders.{at_place}
use Rattle.dd_sets.proofs.order.undoes.Given as goal

abbrev pub invariant-loop-place : goal.invariant-loop-place
invariant-loop-place l = record {
  within : (k : ℕ) → k < l.place → at_place l.there k < length l.back;
  undone : (k : ℕ) → k < l.place → at_place l.back (at_place l.there k) ≡ k;
}
