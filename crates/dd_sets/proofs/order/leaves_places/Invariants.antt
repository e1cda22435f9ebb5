-- Each place so far has its own number.
use Rattle.std.proofs.Common.{◌≡◌, ℕ, ◌<◌}
use Rattle.dd_sets.specs.Orders.{at_place}
use Rattle.dd_sets.proofs.order.leaves_places.Given as goal

abbrev pub invariant-loop-place : goal.invariant-loop-place
invariant-loop-place l = (k : ℕ) → k < l.place → at_place l.numbers k ≡ k
