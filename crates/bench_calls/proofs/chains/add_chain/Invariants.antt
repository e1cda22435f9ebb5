-- The chain so far stands from the variable of its last node on.
use Rattle.std.proofs.Common.{◌≡◌}
use Rattle.dd_nodes.specs.NodeList.{IsNumber, StandsFrom}
use Rattle.bench_calls.proofs.chains.add_chain.Given as goal

abbrev pub invariant-loop-var : goal.invariant-loop-var
invariant-loop-var l = record {
  vars : l.dd.vars ≡ 256;
  number : IsNumber l.dd.nodes l.f.0;
  from : StandsFrom l.dd.nodes l.var l.f.0;
}
