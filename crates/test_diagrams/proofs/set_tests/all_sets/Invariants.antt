-- The sets so far are live.
use Rattle.std.proofs.Common.{◌≤◌, All}
use Rattle.dd_sets.specs.LiveSets.{IsLive}
use Rattle.test_diagrams.proofs.set_tests.all_sets.Given as goal

abbrev pub invariant-loop-table : goal.invariant-loop-table
invariant-loop-table l = record {
  live : All (λ k. IsLive l.sets k.0.0) l.known.items;
  vars : 3 ≤ l.sets.vars;
}
