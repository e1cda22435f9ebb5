-- The table keeps its variables.
use Rattle.std.proofs.Common.{◌≡◌}
use Rattle.test_diagrams.proofs.operation_tests.build_state.Given as goal

abbrev pub invariant-loop-x : goal.invariant-loop-x
invariant-loop-x l = l.ops.vars ≡ l.initial.ops.vars
