use Rattle.std.proofs.Common.{arith}
use Rattle.exec_graph.specs.Values.{followers_at, graph_size, predecessors_at}
use Rattle.plan_check.proofs.SearchCounts.{looks_twice}
use Rattle.plan_check.proofs.search.Search.follow.Goals as goal

pub loop-top-preserved : goal.loop-top-preserved
loop-top-preserved g c = record {
  search = c.in_ok-advance.ensures.search c.in-Further.is;
  steps = omega (arith, c.in_ok-advance.ensures.steps c.in-Further.is, c.loop-top.invariant.steps);
  kept = λ i seen. c.in_ok-advance.ensures.kept c.in-Further.is i (c.loop-top.invariant.kept i seen);
}

pub returns-in_err-advance-clause-most : goal.returns-in_err-advance-clause-most
returns-in_err-advance-clause-most g c = omega (arith, c.advance.ensures.most, c.loop-top.invariant.steps)

pub returns-in-Round-clause-most : goal.returns-in-Round-clause-most
returns-in-Round-clause-most g c = omega (arith, c.advance.ensures.most, c.loop-top.invariant.steps)

pub returns-clause-most : goal.returns-clause-most
returns-clause-most g c =
    let most = looks_twice (graph_size c.args.graph.now) (followers_at c.args.graph.now) (predecessors_at c.args.graph.now) c.requires.turned c.loop-top.self.visits.items c.loop-top.self.path.items c.loop-top.invariant.search in
    omega (arith, most, c.loop-top.invariant.steps)
