-- The table keeps its variables.
use Rattle.std.proofs.Common.{◌≡◌}
use Rattle.test_diagrams.proofs.operation_tests.start.Given as goal

abbrev pub invariant-loop-v : goal.invariant-loop-v
invariant-loop-v l = l.ops.vars ≡ l.initial.ops.vars
