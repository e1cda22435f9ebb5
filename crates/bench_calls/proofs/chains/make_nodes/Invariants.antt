-- The table keeps its variables.
use Rattle.std.proofs.Common.{◌≡◌}
use Rattle.bench_calls.proofs.chains.make_nodes.Given as goal

abbrev pub invariant-loop : goal.invariant-loop
invariant-loop l = l.dd.vars ≡ 256
