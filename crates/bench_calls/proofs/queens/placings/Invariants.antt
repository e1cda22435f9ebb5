-- The conjunction so far is in the table.
use Rattle.std.proofs.Common.{◌≡◌, ◌*◌}
use Rattle.dd_nodes.specs.NodeList.{IsNumber}
use Rattle.bench_calls.proofs.queens.placings.Given as goal

abbrev pub invariant-loop-row : goal.invariant-loop-row
invariant-loop-row l = record {
  number : IsNumber l.ops.nodes l.all.0;
  vars : l.ops.vars ≡ l.size * l.size;
}

abbrev pub invariant-loop-cell : goal.invariant-loop-cell
invariant-loop-cell l = record {
  number : IsNumber l.ops.nodes l.all.0;
  vars : l.ops.vars ≡ l.size * l.size;
}
