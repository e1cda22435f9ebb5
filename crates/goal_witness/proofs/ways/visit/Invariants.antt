-- The followers so far that are in the part have ways.
use Rattle.plan_witness.specs.Ways.{HasGrown}
use Rattle.goal_witness.proofs.Visiting.{IsVisitingIn}
use Rattle.goal_witness.proofs.ways.visit.Given as goal

abbrev pub invariant-loop-k : goal.invariant-loop-k
invariant-loop-k g l = record {
  visiting : IsVisitingIn l.zone.graph.now l.zone.inside.now l.ways.lengths.items l.ways.before.items l.now l.number l.k;
  grown : HasGrown l.fn.ways.lengths.items l.ways.lengths.items l.found;
}
