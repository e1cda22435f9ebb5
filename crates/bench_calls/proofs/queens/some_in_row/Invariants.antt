-- The row so far is in the table, which only grows.
use Rattle.std.proofs.Common.{◌≡◌, ◌≤◌, length}
use Rattle.dd_nodes.specs.NodeList.{IsNumber}
use Rattle.bench_calls.proofs.queens.some_in_row.Given as goal

abbrev pub invariant-loop-column : goal.invariant-loop-column
invariant-loop-column l = record {
  number : IsNumber l.ops.nodes l.some.0;
  longer : length l.initial.ops.nodes ≤ length l.ops.nodes;
  vars : l.ops.vars ≡ l.initial.ops.vars;
}
