-- Private: how a label spreads. Each number that has it looks, once, at the edges that lead to it.
use Rattle.std.specs.Prelude.{◌≡◌, ◌≢◌, ◌<◌, ◌==◌, ◌&&◌, not, ℕ, Bool, true, List, length, map}
use Rattle.std.specs.Prelude.{count_by, slice_index_or, ⊤}
use Rattle.std.specs.List.{AllPairs, flat_map, list_any}
use Rattle.exec_graph.specs.Rows.{Edge, edge}
use Rattle.exec_graph.specs.declared.graphs.Graph.{Graph}
use Rattle.plan_check.specs.Labels.{HasFollowers, IsWithinRounds, is_led, mark_at}
use Rattle.plan_check.specs.Marks.{ListsMarked}
use Rattle.plan_check.specs.declared.spreading.Need.{Need}
use Rattle.plan_check.specs.declared.spreading.Need.TheVariants.{One, Each}

-- Private: where each of the followers must have a label, there is a follower
abbrev pub NeedsFollowers : Need → Graph → Type 0
NeedsFollowers One graph = ⊤
NeedsFollowers Each graph = HasFollowers graph

-- Private: whether the edge from i to j was looked at
abbrev pub is_looked : List Edge → ℕ → ℕ → Bool
is_looked edges i j = list_any (λ (e : Edge). (e.source == i) && (e.target == j)) edges

-- Private: the edges that lead to some numbers
abbrev pub edges_to : (ℕ → List ℕ) → List ℕ → List Edge
edges_to prev xs = flat_map (λ x. map (λ i. edge i x) (prev x)) xs

-- Private: whether enough of the followers have the label, where one has and so many haven't yet
abbrev pub is_enough : Need → ℕ → Bool
is_enough One left = true
is_enough Each left = left == 0

-- Private: whether number i gets the label, where one of its followers has it and so many haven't
-- yet
abbrev pub is_due : Need → List Bool → List Bool → ℕ → ℕ → Bool
is_due need guard marks left i = not (mark_at marks i) && (mark_at guard i && is_enough need left)

-- Private: what holds once some edges were looked at: the marked numbers are listed, each once;
-- each number has the count of its edges that were not looked at; those that were lead to marked
-- numbers; and where enough of them were, a number with the guard is marked
pub record IsSpreading (n : ℕ) (need : Need) (next : ℕ → List ℕ) (guard marks : List Bool)
    (lacks found : List ℕ) (edges : List Edge) : Type 0 where
  pub count : length marks ≡ n
  pub lacks_count : length lacks ≡ n
  pub listed : ListsMarked marks found
  pub different : AllPairs (λ i j. i ≢ j) found
  pub left : (i : ℕ) → i < n
      → slice_index_or lacks i 0 ≡ count_by (λ j. not (is_looked edges i j)) (next i)
  pub sound : (i j : ℕ) → is_looked edges i j ≡ true → mark_at marks j ≡ true
  pub due : (i : ℕ) → i < n → mark_at guard i ≡ true
      → is_led need (is_looked edges i) (next i) ≡ true → mark_at marks i ≡ true

-- Private: marks have only been added, and only where rounds lead
pub record Reaches (need : Need) (next : ℕ → List ℕ) (guard before marks : List Bool) : Type 0 where
  pub kept : (i : ℕ) → mark_at before i ≡ true → mark_at marks i ≡ true
  pub within : (target : ℕ → Bool) → IsWithinRounds need next (mark_at guard) target before
      → IsWithinRounds need next (mark_at guard) target marks
