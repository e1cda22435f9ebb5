-- Groups of fluents of which exactly one is true.
use Rattle.std.specs.Prelude.{◌≡◌, ℕ, Bool, true, false, List, length, slice_get}
use Rattle.std.specs.List.{All, Contains}
use Rattle.std.specs.Option.{option_map_or}
use Rattle.task_core.specs.Conditions.{holds}
use Rattle.task_core.specs.States.{truth}
use Rattle.task_core.specs.Tasks.{fluent_count, initial_vectors, states_after, system_of}
use Rattle.task_core.specs.Vectors.{Vector, value_of}
use Rattle.task_core.specs.declared.states.State.{State}
use Rattle.task_core.specs.declared.tasks.Task.{Task}
use Rattle.relaxed_reach.specs.Reached.{IsReachable}

-- a group of fluents, as the test of its members
abbrev pub Group : Type 0
Group = ℕ → Bool

-- this fluent is the one member of the group that is true
pub record IsTheOne (group : Group) (fluent : ℕ) (value : ℕ → Bool) : Type 0 where
  pub member : group fluent ≡ true
  pub holds : value fluent ≡ true
  pub only : (other : ℕ) → group other ≡ true → value other ≡ true → other ≡ fluent

-- exactly one member of the group is true
pub record HasOne (group : Group) (value : ℕ → Bool) : Type 0 where
  pub fluent : ℕ
  pub is : IsTheOne group fluent value

-- whether the precondition of action a holds in v
abbrev pub precondition_holds : Task → Vector → ℕ → Bool
precondition_holds task v a =
    option_map_or (λ action. holds action.exec (value_of v)) (slice_get task.actions.items a) false

-- exactly one member is true in each vector after the uncertain entries; and where exactly one is,
-- exactly one is after each outcome of each action whose precondition holds. The invariant of the
-- task is not used: no vector is left out, and no outcome
pub record IsInductive (task : Task) (group : Group) : Type 0 where
  pub initial : (v : Vector) → Contains (initial_vectors task) v → HasOne group (value_of v)
  pub kept : (v w : Vector) (a : ℕ) → length v ≡ fluent_count task → HasOne group (value_of v)
      → precondition_holds task v a ≡ true → Contains (states_after task v a) w
      → HasOne group (value_of w)

-- it is so of each of some groups
abbrev pub AreInductive : Task → List State → Type 0
AreInductive task groups = All (λ (members : State). IsInductive task (truth members)) groups

-- exactly one member is true in each reachable state
abbrev pub IsOneOf : Task → Group → Type 0
IsOneOf task group = (v : Vector) → IsReachable (system_of task) v → HasOne group (value_of v)
