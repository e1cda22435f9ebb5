use Rattle.std.proofs.Common.{subst, arith}
use borrow.Author.Count.{below_more}
use Rattle.exec_graph.specs.Values.{followers_at, graph_size, predecessors_at}
use Rattle.plan_check.specs.Searches.{IsSearch, IsSeen}
use Rattle.plan_check.proofs.SearchCounts.{looks_twice}
use Rattle.plan_check.proofs.SearchSteps.{greatest_longest}
use Rattle.plan_check.proofs.longest.longest_walk.Goals as goal

pub loop-root-init : goal.loop-root-init
loop-root-init g c =
    record {
      search = subst (λ n. IsSearch n (followers_at c.args.graph.now) c.in_ok-search.search.visits.items c.in_ok-search.search.path.items) (c.len.ensures.size 0)
          (c.in_ok-search.ensures.search (followers_at c.args.graph.now));
      path = c.in_ok-search.ensures.path;
      seen = λ k l. absurd (omega arith);
      steps = omega arith;
    }

pub search_from-requires-clause-root : goal.search_from-requires-clause-root
search_from-requires-clause-root g c = omega (arith, c.len-root-end.ensures.size 0)

pub returns-clause-longest : goal.returns-clause-longest
returns-clause-longest g c =
    let next = followers_at c.args.graph.now in
    let visits = c.loop-root.search.visits.items in
    greatest_longest (graph_size c.args.graph.now) next visits
    (subst (IsSearch (graph_size c.args.graph.now) next visits) c.loop-root.invariant.path c.loop-root.invariant.search)
    (λ i l. c.loop-root.invariant.seen i (omega (arith, c.len-root-end.ensures.size 0)))
    c.requires.inside c.greatest.result c.greatest.ensures.most c.greatest.ensures.attained

pub loop-root-preserved : goal.loop-root-preserved
loop-root-preserved g c =
    let is = c.in-Further.is in
    record {
      search = c.in_ok-search_from.ensures.search is;
      path = c.in_ok-search_from.ensures.path is;
      seen = below_more (IsSeen c.search_from.new.self.visits.items) c.loop-root.root
          (λ k l. c.in_ok-search_from.ensures.kept is k (c.loop-root.invariant.seen k l))
          (c.in_ok-search_from.ensures.seen is);
      steps = omega (arith, c.in_ok-search_from.ensures.steps is, c.loop-root.invariant.steps);
    }

pub returns-in_err-search_from-clause-steps : goal.returns-in_err-search_from-clause-steps
returns-in_err-search_from-clause-steps g c = omega (arith, c.search_from.ensures.most, c.loop-root.invariant.steps)

pub returns-in-Round-clause-steps : goal.returns-in-Round-clause-steps
returns-in-Round-clause-steps g c = omega (arith, c.search_from.ensures.most, c.loop-root.invariant.steps)

pub returns-clause-steps : goal.returns-clause-steps
returns-clause-steps g c =
    let most = looks_twice (graph_size c.args.graph.now) (followers_at c.args.graph.now) (predecessors_at c.args.graph.now) c.requires.turned c.loop-root.search.visits.items c.loop-root.search.path.items c.loop-root.invariant.search in
    omega (arith, most, c.loop-root.invariant.steps)
