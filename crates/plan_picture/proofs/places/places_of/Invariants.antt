-- The configurations so far stand in the list.
use Rattle.std.proofs.Common.{◌≡◌, ◌<◌, ℕ, Some, length, slice_get}
use Rattle.exec_graph.specs.Values.{IsWithinFluents, plain_graph}
use Rattle.plan_picture.specs.Places.{AreWithin, configurations_of}
use Rattle.plan_picture.proofs.places.places_of.Given as goal

abbrev pub invariant-loop-number : goal.invariant-loop-number
invariant-loop-number l = record {
  count : length l.places.items ≡ l.number;
  same : (n i : ℕ) → i < l.number
      → slice_get (configurations_of n l.places.items) i ≡ Some ((plain_graph n l.graph).configuration i);
  within : (n : ℕ) → IsWithinFluents n l.graph → AreWithin n l.places.items;
}
