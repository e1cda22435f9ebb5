-- The numbers so far were visited.
use Rattle.exec_graph.specs.Values.{graph_size}
use Rattle.plan_witness.specs.Ways.{HasGrown, IsRound}
use Rattle.goal_witness.specs.Zones.{next_in}
use Rattle.goal_witness.proofs.ways.round.Given as goal

abbrev pub invariant-loop-number : goal.invariant-loop-number
invariant-loop-number g l = record {
  round : IsRound (graph_size l.zone.graph.now) (next_in l.zone.graph.now l.zone.inside.now) l.ways.lengths.items l.ways.before.items l.now l.number;
  grown : HasGrown l.fn.ways.lengths.items l.ways.lengths.items l.found;
}
