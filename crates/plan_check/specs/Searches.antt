-- Private: a search in depth, and what it knows on its way.
use Rattle.std.specs.Prelude.{◌≡◌, ◌≢◌, ◌⊎◌, ◌+◌, ◌-◌, ◌<◌, ◌≤◌, ◌^◌, ℕ, List, [], ◌∷◌, ⊤}
use Rattle.std.specs.Prelude.{length, slice_index, slice_index_or, sum_by}
use Rattle.exec_graph.specs.Values.{graph_size, predecessors_at, sum_below}
use Rattle.exec_graph.specs.declared.graphs.Graph.{Graph}
use Rattle.std.specs.List.{All, AllPairs, Contains}
use Rattle.plan_check.specs.Walks.{IsWalk}
use Rattle.plan_check.specs.declared.search.Mark.{Mark}
use Rattle.plan_check.specs.declared.search.Mark.TheVariants.{Unseen, Open, Done}
use Rattle.plan_check.specs.declared.search.Visit.{Visit}

-- Private: nothing is known of a number yet
abbrev pub no_visit : Visit
no_visit = record { mark = Unseen; tried = 0; height = 0 }

-- Private: what is known of number i; nothing past the last one
abbrev pub visit_at : List Visit → ℕ → Visit
visit_at visits i = slice_index_or visits i no_visit

-- Private: number j is done, and its height is below a bound
pub record IsDoneBelow (visits : List Visit) (bound j : ℕ) : Type 0 where
  pub done : (visit_at visits j).mark ≡ Done
  pub below : (visit_at visits j).height < bound

-- Private: a height is one above that of some number that follows i and is done
pub record IsAboveSome (next : ℕ → List ℕ) (visits : List Visit) (i height : ℕ) : Type 0 where
  pub follower : ℕ
  pub follows : Contains (next i) follower
  pub done : (visit_at visits follower).mark ≡ Done
  pub above : height ≡ (visit_at visits follower).height + 1

-- Private: what is known of number i is true: of the numbers that follow it the first `tried` are
-- done and lower, it is no higher than it must be, and where it is done all have been tried
pub record IsVisit (next : ℕ → List ℕ) (visits : List Visit) (i : ℕ) (visit : Visit) : Type 0 where
  pub tried : visit.tried ≤ length (next i)
  pub all : visit.mark ≡ Done → visit.tried ≡ length (next i)
  pub below : (k : ℕ) → k < visit.tried → IsDoneBelow visits visit.height (slice_index (next i) k)
  pub attained : (visit.height ≡ 0) ⊎ IsAboveSome next visits i visit.height

-- Private: 1 for a number that is done, else 0
abbrev pub counted : Mark → ℕ
counted Unseen = 0
counted Open = 0
counted Done = 1

-- Private: how many numbers are done
abbrev pub done_count : List Visit → ℕ
done_count visits = sum_by (λ (visit : Visit). counted visit.mark) visits

-- Private: a height is at most how many numbers are done, its own not counted
abbrev pub IsLow : ℕ → Visit → Type 0
IsLow done visit = visit.height + counted visit.mark ≤ done

-- Private: a list whose first number begins a walk through the others
abbrev pub IsTrail : (ℕ → List ℕ) → List ℕ → Type 0
IsTrail next [] = ⊤
IsTrail next (i ∷ rest) = IsWalk next i rest

-- Private: what holds between two steps of the search: the numbers on its path are those that are
-- open, each once and each following the one before
pub record IsSearch (n : ℕ) (next : ℕ → List ℕ) (visits : List Visit) (path : List ℕ) : Type 0 where
  pub count : length visits ≡ n
  pub each : (i : ℕ) → IsVisit next visits i (visit_at visits i)
  pub low : (i : ℕ) → IsLow (done_count visits) (visit_at visits i)
  pub on_path : All (λ i. (visit_at visits i).mark ≡ Open) path
  pub all_on_path : (i : ℕ) → (visit_at visits i).mark ≡ Open → Contains path i
  pub once : AllPairs (λ i j. i ≢ j) path
  pub trail : IsTrail next path

-- Private: number i has been seen
abbrev pub IsSeen : List Visit → ℕ → Type 0
IsSeen visits i = (visit_at visits i).mark ≢ Unseen

-- Private: what was seen stays seen
abbrev pub KeepsSeen : List Visit → List Visit → Type 0
KeepsSeen before after = (i : ℕ) → IsSeen before i → IsSeen after i

-- Private: how much is left to do with a number of which so many followers have been tried: more
-- than a list of followers can be long where it wasn't seen, nothing where it is done
abbrev pub left_by : Mark → ℕ → ℕ
left_by Unseen tried = 2 ^ 64 + 2
left_by Open tried = (2 ^ 64 + 1) - tried
left_by Done tried = 0

-- Private: how much is left to do with all of them
abbrev pub left_in : List Visit → ℕ
left_in visits = sum_by (λ (visit : Visit). left_by visit.mark visit.tried) visits

-- Private: 1 where some edge leads to a number, whose list of predecessors this is, else 0
abbrev pub entered : List ℕ → ℕ
entered [] = 0
entered (i ∷ rest) = 1

-- Private: how often an edge was looked at for a number: once where it was opened along an edge,
-- and once for each follower that was tried
abbrev pub looks_by : Mark → ℕ → ℕ → ℕ
looks_by Unseen entries tried = 0
looks_by Open entries tried = entries + tried
looks_by Done entries tried = entries + tried

abbrev pub looks_at : (ℕ → List ℕ) → List Visit → ℕ → ℕ
looks_at prev visits i =
    looks_by (visit_at visits i).mark (entered (prev i)) (visit_at visits i).tried

-- Private: how often for all of them, at most
abbrev pub looks_in : Graph → List Visit → ℕ
looks_in graph visits = sum_below (looks_at (predecessors_at graph) visits) (graph_size graph)
