-- The table keeps its variables.
use Rattle.std.proofs.Common.{◌≡◌}
use Rattle.bench_calls.proofs.sets.make_sets.Given as goal

abbrev pub invariant-loop : goal.invariant-loop
invariant-loop l = l.ops.vars ≡ 60
