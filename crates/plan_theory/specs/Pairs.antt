-- Sets of state-action pairs (Cimatti, Pistore, Roveri, Traverso 2003: state-action tables).
use Rattle.std.specs.Prelude.{ℕ, Bool, [], if◌then◌else◌, None}
use Rattle.std.specs.List.{list_any}
use Rattle.task_core.specs.Vectors.{Vector, same_vector}
use Rattle.task_core.specs.Systems.{System, goal_states}
use Rattle.task_core.specs.Cubes.{SetOfVectors}
use Rattle.plan_theory.specs.Layers.{action_numbers}

-- a set of pairs of a state and an action, as the test of its members
abbrev pub Pairs : Type 0
Pairs = Vector → ℕ → Bool

-- the states of a set of pairs
abbrev pub has_pair : System → Pairs → SetOfVectors
has_pair sys pairs v = list_any (pairs v) (action_numbers sys)

-- the set of the goal states
abbrev pub is_goal : System → SetOfVectors
is_goal sys v = list_any (same_vector v) (goal_states sys)

-- the system in which the pairs of the set alone can be executed
abbrev pub restricted : System → Pairs → System
restricted sys pairs = record sys {
  next = λ v a. if pairs v a then sys.next v a else [];
  after = λ v a o. if pairs v a then sys.after v a o else None;
}
