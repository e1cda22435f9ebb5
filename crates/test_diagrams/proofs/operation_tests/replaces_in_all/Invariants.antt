-- The table keeps its variables.
use Rattle.std.proofs.Common.{◌≡◌}
use Rattle.test_diagrams.proofs.operation_tests.replaces_in_all.Given as goal

abbrev pub invariant-loop-f : goal.invariant-loop-f
invariant-loop-f l = l.ops.vars ≡ l.initial.ops.vars
