-- When a smaller planning system is the part of a larger one that can be reached. What it leaves out are
-- fluents that keep one value, and actions that can never be executed.
use Rattle.std.specs.Prelude.{◌≡◌, ◌↔◌, ℕ, List, Some, map, length, slice_get}
use Rattle.std.specs.List.{Contains}
use Rattle.task_core.specs.Systems.{System, Exec, IsSystem, IsVector, goal_states}
use Rattle.task_core.specs.Vectors.{Vector}

-- how the smaller system lies in the larger one
pub record Part : Type 0 where
  -- the vector of the larger system that a vector of the smaller one stands for
  pub widened : Vector → Vector
  -- a vector of the larger system without the values of the fluents that are left out
  pub narrowed : Vector → Vector
  -- the actions of the smaller system, by their numbers in the larger one
  pub actions : List ℕ

-- the action with number i of the smaller system is action a of the larger one
abbrev pub IsActionAt : Part → ℕ → ℕ → Type 0
IsActionAt part i a = slice_get part.actions i ≡ Some a

-- the smaller system has all that can be reached: the initial states; and wherever it is, the same
-- actions can be executed, with the same outcomes, and it is in a state or in the goal exactly where
-- the larger system is
pub record IsReachablePart (large small : System) (part : Part) : Type 0 where
  pub large_system : IsSystem large
  pub small_system : IsSystem small
  pub actions : length part.actions ≡ small.actions
  pub wide : (w : Vector) → IsVector small w → IsVector large (part.widened w)
  pub narrow : (v : Vector) → IsVector small (part.narrowed v)
  pub back : (w : Vector) → IsVector small w → part.narrowed (part.widened w) ≡ w
  pub initial : large.initial ≡ map part.widened small.initial
  pub inside : (w : Vector) → IsVector small w → large.in_space (part.widened w) ≡ small.in_space w
  pub goal : (w : Vector) → IsVector small w
      → Contains (goal_states small) w ↔ Contains (goal_states large) (part.widened w)
  pub next : (w : Vector) (i a : ℕ) → IsVector small w → IsActionAt part i a
      → large.next (part.widened w) a ≡ map part.widened (small.next w i)
  -- an action that can be executed there is listed
  pub others : (w : Vector) (a : ℕ) → IsVector small w → Exec large (part.widened w) a
      → Contains part.actions a
