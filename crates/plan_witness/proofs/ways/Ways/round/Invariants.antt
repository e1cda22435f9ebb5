-- The numbers so far were visited.
use Rattle.exec_graph.specs.Values.{followers_at, graph_size}
use Rattle.plan_witness.specs.Ways.{HasGrown, IsRound}
use Rattle.plan_witness.proofs.ways.Ways.round.Given as goal

abbrev pub invariant-loop-number : goal.invariant-loop-number
invariant-loop-number g l = record {
  round : IsRound (graph_size l.graph) (followers_at l.graph) l.self.lengths.items l.self.before.items l.now l.number;
  grown : HasGrown l.fn.self.lengths.items l.self.lengths.items l.found;
}
