-- The listing is one of the moved sets.
use Rattle.dd_sets.specs.Rebuilt.{IsListingOf}
use Rattle.test_diagrams.proofs.order_tests.all_same_cubes.Given as goal

abbrev pub invariant-loop-place : goal.invariant-loop-place
invariant-loop-place l = IsListingOf l.moved l.listing.tables
