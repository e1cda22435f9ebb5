-- The clause so far is in the table, which only grows.
use Rattle.std.proofs.Common.{◌≡◌, ◌≤◌, length}
use Rattle.dd_nodes.specs.NodeList.{IsNumber}
use Rattle.bench_calls.proofs.clauses.random_clause.Given as goal

abbrev pub invariant-loop-part : goal.invariant-loop-part
invariant-loop-part l = record {
  number : IsNumber l.ops.nodes l.clause.0;
  longer : length l.initial.ops.nodes ≤ length l.ops.nodes;
  vars : l.ops.vars ≡ 60;
}
