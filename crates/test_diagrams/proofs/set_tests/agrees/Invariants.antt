-- The live sets are kept.
use Rattle.dd_sets.specs.Calls.{KeepsSets}
use Rattle.test_diagrams.proofs.set_tests.agrees.Given as goal

abbrev pub invariant-loop-g : goal.invariant-loop-g
invariant-loop-g l = KeepsSets l.fn.sets l.sets
