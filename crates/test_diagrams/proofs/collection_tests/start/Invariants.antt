-- The sets so far are live.
use Rattle.std.proofs.Common.{◌≡◌, All}
use Rattle.dd_sets.specs.LiveSets.{IsLive}
use Rattle.test_diagrams.proofs.collection_tests.start.Given as goal

abbrev pub invariant-loop-f : goal.invariant-loop-f
invariant-loop-f l = record {
  live : All (λ k. IsLive l.sets k.0.0) l.known.items;
  vars : l.sets.vars ≡ 4;
}
