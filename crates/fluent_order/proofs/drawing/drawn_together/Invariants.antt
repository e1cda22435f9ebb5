-- Both are orders of as many fluents.
use Rattle.std.proofs.Common.{◌≡◌, length}
use Rattle.fluent_order.specs.Orders.{IsOrderOf}
use Rattle.fluent_order.proofs.drawing.drawn_together.Given as goal

abbrev pub invariant-loop : goal.invariant-loop
invariant-loop l = record {
  best : IsOrderOf (length l.begun) l.best.items;
  best_count : length l.best.items ≡ length l.begun;
  count : length l.places.items ≡ length l.begun;
}
