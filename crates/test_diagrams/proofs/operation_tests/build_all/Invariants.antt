-- The table keeps its variables.
use Rattle.std.proofs.Common.{◌≡◌}
use Rattle.test_diagrams.proofs.operation_tests.build_all.Given as goal

abbrev pub invariant-loop-table : goal.invariant-loop-table
invariant-loop-table l = l.ops.vars ≡ l.initial.ops.vars
