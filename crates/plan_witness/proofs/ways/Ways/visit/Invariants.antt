-- The followers so far have ways.
use Rattle.exec_graph.specs.Values.{followers_at, graph_size}
use Rattle.plan_witness.specs.Ways.{HasGrown, IsVisiting}
use Rattle.plan_witness.proofs.ways.Ways.visit.Given as goal

abbrev pub invariant-loop-k : goal.invariant-loop-k
invariant-loop-k g l = record {
  visiting : IsVisiting (graph_size l.graph) (followers_at l.graph) l.self.lengths.items l.self.before.items l.now l.number l.k;
  grown : HasGrown l.fn.self.lengths.items l.self.lengths.items l.found;
}
