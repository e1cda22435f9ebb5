-- The conjunction so far is in the table.
use Rattle.std.proofs.Common.{◌≡◌}
use Rattle.dd_nodes.specs.NodeList.{IsNumber}
use Rattle.bench_calls.proofs.clauses.next_conjunction.Given as goal

abbrev pub invariant-loop : goal.invariant-loop
invariant-loop l = record {
  number : IsNumber l.ops.nodes l.all.0;
  vars : l.ops.vars ≡ 60;
}
