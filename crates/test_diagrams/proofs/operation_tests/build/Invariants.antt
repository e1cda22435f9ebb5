-- The table keeps its variables.
use Rattle.std.proofs.Common.{◌≡◌}
use Rattle.test_diagrams.proofs.operation_tests.build.Given as goal

abbrev pub invariant-loop-state : goal.invariant-loop-state
invariant-loop-state l = l.ops.vars ≡ l.initial.ops.vars
