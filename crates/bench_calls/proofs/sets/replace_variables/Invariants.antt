-- The table keeps its variables and only grows.
use Rattle.std.proofs.Common.{◌≡◌}
use Rattle.dd_nodes.specs.NodeList.{IsNumber}
use Rattle.bench_calls.proofs.sets.replace_variables.Given as goal

abbrev pub invariant-loop-step : goal.invariant-loop-step
invariant-loop-step l = l.ops.vars ≡ 60
