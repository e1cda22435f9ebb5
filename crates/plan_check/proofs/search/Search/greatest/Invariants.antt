use Rattle.std.proofs.Common.{ℕ, ◌<◌, ◌≤◌, ◌≡◌, ◌⊎◌, length}
use Rattle.plan_check.specs.Searches.{visit_at}
use Rattle.plan_check.proofs.search.Search.greatest.Given as goal

abbrev pub invariant-loop-visit : goal.invariant-loop-visit
invariant-loop-visit l = record {
  most : (i : ℕ) → i < l.visit-index → (visit_at l.self.visits.items i).height ≤ l.greatest;
  attained : (l.greatest ≡ 0) ⊎ ((i : ℕ) × (i < length l.self.visits.items) × ((visit_at l.self.visits.items i).height ≡ l.greatest));
}
