-- Private: a part of a graph, within which ways go: the numbers that have a mark.
use Rattle.std.specs.Prelude.{◌≡◌, ◌≤◌, ℕ, Bool, List, length}
use Rattle.std.specs.List.{filter}
use Rattle.exec_graph.specs.Values.{followers_at, graph_size}
use Rattle.exec_graph.specs.declared.graphs.Graph.{Graph}
use Rattle.plan_check.specs.Labels.{mark_at}
use Rattle.plan_check.specs.Plain.{HasFollowersInside}
use Rattle.plan_check.specs.Walks.{IsWalk, last_number}
use Rattle.plan_witness.specs.Ways.{IsOnRound, IsShortestRoundAt}

-- Private: the numbers with a mark that follow i
abbrev pub kept : (ℕ → List ℕ) → List Bool → ℕ → List ℕ
kept next inside i = filter (mark_at inside) (next i)

abbrev pub next_in : Graph → List Bool → ℕ → List ℕ
next_in graph inside = kept (followers_at graph) inside

-- Private: each configuration of the graph has a mark that says whether it is in the part
pub record IsZone (graph : Graph) (inside : List Bool) : Type 0 where
  pub followers : HasFollowersInside graph
  pub count : length inside ≡ graph_size graph

-- Private: a way from i to j, and one from j back to it by the follower `first`, of which none is shorter;
-- to no other number from which a way comes back there is a shorter one
pub record IsZoneLasso (next : ℕ → List ℕ) (i : ℕ) (stem : List ℕ) (j first : ℕ)
    (back : List ℕ) : Type 0 where
  pub walk : IsWalk next i stem
  pub ends : last_number i stem ≡ j
  pub on : IsOnRound next j
  pub nearest : (rest : List ℕ) → IsWalk next i rest → IsOnRound next (last_number i rest)
      → length stem ≤ length rest
  pub round : IsShortestRoundAt next j first back

-- Private: no way from i leads to a number from which a way comes back
abbrev pub HasNoRound : (ℕ → List ℕ) → ℕ → Type 0
HasNoRound next i = (rest : List ℕ) → IsWalk next i rest → IsOnRound next (last_number i rest) → ⊥
