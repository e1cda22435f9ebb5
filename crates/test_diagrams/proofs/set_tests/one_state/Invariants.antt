-- The set so far is live.
use Rattle.dd_sets.specs.Calls.{KeepsSets}
use Rattle.dd_sets.specs.LiveSets.{IsLive}
use Rattle.test_diagrams.proofs.set_tests.one_state.Given as goal

abbrev pub invariant-loop-f : goal.invariant-loop-f
invariant-loop-f l = record {
  all : IsLive l.sets l.all.0;
  kept : KeepsSets l.fn.sets l.sets;
}
