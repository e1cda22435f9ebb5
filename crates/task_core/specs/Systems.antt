-- A planning system as plain data: finitely many states and actions, each action with several
-- outcomes (Cimatti, Pistore, Roveri, Traverso 2003: a planning domain with the initial states and
-- the goal states of a planning problem).
use Rattle.std.specs.Prelude.{◌≡◌, ◌≢◌, ℕ, ◌<◌, Bool, true, List, [], Option, unwrap_or, length, map}
use Rattle.std.specs.List.{Contains, filter_map, range_with_len}
use Rattle.task_core.specs.Conditions.{greatest}
use Rattle.task_core.specs.Vectors.{Vector}

pub record System : Type 0 where
  -- how many fluents there are: a state is a vector of so many values
  pub fluents : ℕ
  -- which of these vectors are states: the set of states, as the test of its members
  pub in_space : Vector → Bool
  -- how many actions there are: an action is a number below it
  pub actions : ℕ
  -- how many outcomes an action has, those that lead outside the set of states counted with the rest
  pub outcomes : ℕ → ℕ
  -- the initial states
  pub initial : List Vector
  -- the goal states, where there is a goal
  pub goal : Option (List Vector)
  -- the states to which an action leads from a state, in the order of its outcomes: those that stay
  -- in the set of states. None exactly where the action can't be executed there
  pub next : Vector → ℕ → List Vector
  -- the one to which an outcome leads, by its number among all outcomes of the action; none where
  -- it leads outside the set of states, and where the precondition doesn't hold
  pub after : Vector → ℕ → ℕ → Option Vector

-- the most outcomes of one action; 0 without actions
abbrev pub most_outcomes : System → ℕ
most_outcomes sys = greatest (map sys.outcomes (range_with_len 0 sys.actions))

-- action a can be executed in state s
abbrev pub Exec : System → Vector → ℕ → Type 0
Exec sys s a = sys.next s a ≢ []

-- some outcome of action a leads from s to t
abbrev pub HasOutcome : System → Vector → ℕ → Vector → Type 0
HasOutcome sys s a t = Contains (sys.next s a) t

-- the goal states; none where there is no goal
abbrev pub goal_states : System → List Vector
goal_states sys = unwrap_or sys.goal []

-- v has a truth value for each fluent of the system
abbrev pub IsVector : System → Vector → Type 0
IsVector sys v = length v ≡ sys.fluents

-- v is a state of the system: such a vector that lies in the set of states
pub record IsState (sys : System) (v : Vector) : Type 0 where
  pub vector : IsVector sys v
  pub inside : sys.in_space v ≡ true

-- the parts fit together: initial states, goal states and outcomes are states, and only in states,
-- and only the system's actions, can be executed
pub record IsSystem (sys : System) : Type 0 where
  pub initial : (s : Vector) → Contains sys.initial s → IsState sys s
  pub goal : (s : Vector) → Contains (goal_states sys) s → IsState sys s
  pub next : (s : Vector) (a : ℕ) (t : Vector) → HasOutcome sys s a t → IsState sys t
  pub inside : (s : Vector) (a : ℕ) → Exec sys s a → sys.in_space s ≡ true
  pub actions : (s : Vector) (a : ℕ) → Exec sys s a → a < sys.actions

-- the states to which an action leads are those of its outcomes by their numbers, rising
abbrev pub AreNumbered : System → Type 0
AreNumbered sys =
    (s : Vector) (a : ℕ)
    → sys.next s a ≡ filter_map (sys.after s a) (range_with_len 0 (sys.outcomes a))
