use Rattle.std.proofs.Common.{ℕ, ◌<◌, ◌≤◌, ◌+◌, ◌≡◌, []}
use Rattle.exec_graph.specs.Values.{followers_at, graph_size}
use Rattle.plan_check.specs.Searches.{IsSearch, IsSeen, looks_in}
use Rattle.plan_check.proofs.longest.longest_walk.Given as goal

abbrev pub invariant-loop-root : goal.invariant-loop-root
invariant-loop-root g l = record {
  search : IsSearch (graph_size l.graph) (followers_at l.graph) l.search.visits.items l.search.path.items;
  path : l.search.path.items ≡ [];
  seen : (k : ℕ) → k < l.root → IsSeen l.search.visits.items k;
  steps : l.steps ≤ l.initial.steps + looks_in l.graph l.search.visits.items;
}
