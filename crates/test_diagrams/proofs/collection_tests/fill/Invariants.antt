-- The sets so far are live.
use Rattle.std.proofs.Common.{All}
use Rattle.dd_sets.specs.LiveSets.{IsLive}
use Rattle.test_diagrams.proofs.collection_tests.fill.Given as goal

abbrev pub invariant-loop-step : goal.invariant-loop-step
invariant-loop-step l = All (λ k. IsLive l.sets k.0.0) l.known.items
