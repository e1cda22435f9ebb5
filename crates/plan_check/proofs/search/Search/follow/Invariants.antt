use Rattle.std.proofs.Common.{◌+◌, ◌≤◌}
use Rattle.exec_graph.specs.Values.{followers_at, graph_size}
use Rattle.plan_check.specs.Searches.{IsSearch, KeepsSeen, left_in, looks_in}
use Rattle.plan_check.proofs.search.Search.follow.Given as goal

abbrev pub invariant-loop-top : goal.invariant-loop-top
invariant-loop-top g l = record {
  search : IsSearch (graph_size l.graph) (followers_at l.graph) l.self.visits.items l.self.path.items;
  kept : KeepsSeen l.fn.self.visits.items l.self.visits.items;
  steps : l.steps + looks_in l.graph l.fn.self.visits.items ≤ l.fn.steps + looks_in l.graph l.self.visits.items;
}

abbrev pub decreases-loop-top : goal.decreases-loop-top
decreases-loop-top g l = left_in l.self.visits.items
