-- Private: what the functions on a graph speak of. The state of a configuration is over n fluents.
use Rattle.std.specs.Prelude.{◌≡◌, ◌≢◌, ◌<◌, ◌↔◌, ℕ, Bool, true, false, List, [], nat_lt}
use Rattle.std.specs.List.{AllPairs, Contains}
use Rattle.task_core.specs.Conditions.{holds}
use Rattle.task_core.specs.Vectors.{value_of}
use Rattle.task_core.specs.declared.conditions.Cond.{Cond}
use Rattle.exec_graph.specs.Values.{followers_at, graph_size, lengths_below, predecessors_at, state_at}
use Rattle.exec_graph.specs.declared.graphs.Graph.{Graph}
use Rattle.plan_check.specs.Walks.{IsMarked, StaysBelow}

-- Private: the followers of a graph's configurations are configurations of it
abbrev pub HasFollowersInside : Graph → Type 0
HasFollowersInside graph = StaysBelow (graph_size graph) (followers_at graph)

-- Private: before each number below n come exactly those that it follows; each stands once in these
-- lists and in those of the numbers that follow, and both kinds of lists are together as long
pub record IsTurned (n : ℕ) (next prev : ℕ → List ℕ) : Type 0 where
  pub lists : (i j : ℕ) → j < n → Contains (prev j) i ↔ (i < n) × Contains (next i) j
  pub next_once : (i : ℕ) → i < n → AllPairs (λ j k. j ≢ k) (next i)
  pub prev_once : (j : ℕ) → j < n → AllPairs (λ i k. i ≢ k) (prev j)
  pub even : lengths_below prev n ≡ lengths_below next n

abbrev pub HasPredecessors : Graph → Type 0
HasPredecessors graph = IsTurned (graph_size graph) (followers_at graph) (predecessors_at graph)

-- Private: whether the goal holds in the configuration of a number
abbrev pub is_goal_at : ℕ → Cond → Graph → ℕ → Bool
is_goal_at n goal graph i = holds goal (value_of (state_at n graph i))

-- Private: whether an execution may begin in it
abbrev pub is_initial_at : Graph → ℕ → Bool
is_initial_at graph i = nat_lt i graph.initials

-- Private: some configuration without a follower is outside the goal
pub record HasEndOutside (n : ℕ) (goal : Cond) (graph : Graph) : Type 0 where
  pub number : ℕ
  pub below : number < graph_size graph
  pub end : followers_at graph number ≡ []
  pub outside : is_goal_at n goal graph number ≡ false

-- Private: each configuration without a follower is in the goal
abbrev pub HasEndsInside : ℕ → Cond → Graph → Type 0
HasEndsInside n goal graph = (i : ℕ) → i < graph_size graph → followers_at graph i ≡ []
    → is_goal_at n goal graph i ≡ true

-- Private: a configuration without a follower, in the goal
pub record IsGoalEnd (n : ℕ) (goal : Cond) (graph : Graph) (i : ℕ) : Type 0 where
  pub end : followers_at graph i ≡ []
  pub inside : is_goal_at n goal graph i ≡ true

-- Private: some initial configuration has no mark
pub record HasUnmarkedStart (graph : Graph) (marks : List Bool) : Type 0 where
  pub number : ℕ
  pub below : number < graph_size graph
  pub initial : is_initial_at graph number ≡ true
  pub unmarked : IsMarked marks number → ⊥

-- Private: each initial configuration has a mark
abbrev pub HasMarkedStarts : Graph → List Bool → Type 0
HasMarkedStarts graph marks = (i : ℕ) → i < graph_size graph → is_initial_at graph i ≡ true
    → IsMarked marks i

-- Private: some number below a bound has no mark
pub record HasUnmarked (n : ℕ) (marks : List Bool) : Type 0 where
  pub number : ℕ
  pub below : number < n
  pub unmarked : IsMarked marks number → ⊥

-- Private: each number below a bound has a mark
abbrev pub HasAllMarked : ℕ → List Bool → Type 0
HasAllMarked n marks = (i : ℕ) → i < n → IsMarked marks i
