-- The live sets are kept.
use Rattle.dd_sets.specs.Calls.{KeepsSets}
use Rattle.test_diagrams.proofs.set_tests.all_agree.Given as goal

abbrev pub invariant-loop-f : goal.invariant-loop-f
invariant-loop-f l = KeepsSets l.fn.sets l.sets
