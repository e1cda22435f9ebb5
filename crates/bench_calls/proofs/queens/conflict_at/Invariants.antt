-- The attackers so far are in the table, which only grows.
use Rattle.std.proofs.Common.{◌≡◌, ◌≤◌, length}
use Rattle.dd_nodes.specs.NodeList.{IsNumber}
use Rattle.bench_calls.proofs.queens.conflict_at.Given as goal

abbrev pub invariant-loop-other : goal.invariant-loop-other
invariant-loop-other l = record {
  number : IsNumber l.ops.nodes l.attackers.0;
  longer : length l.initial.ops.nodes ≤ length l.ops.nodes;
  vars : l.ops.vars ≡ l.initial.ops.vars;
}
