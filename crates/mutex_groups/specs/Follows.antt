-- What follows from groups of which exactly one member is true.
use Rattle.std.specs.Prelude.{◌≡◌, ℕ, Bool, true, List}
use Rattle.std.specs.List.{All, Contains}
use Rattle.task_core.specs.Conditions.{holds}
use Rattle.task_core.specs.States.{truth}
use Rattle.task_core.specs.Tasks.{in_space, initial_vectors, states_after, system_of}
use Rattle.task_core.specs.Vectors.{Vector}
use Rattle.task_core.specs.declared.conditions.Cond.{Cond}
use Rattle.task_core.specs.declared.states.State.{State}
use Rattle.task_core.specs.declared.tasks.Task.{Task}
use Rattle.relaxed_reach.specs.Reached.{IsReachable}
use Rattle.mutex_groups.specs.Cases.{IsFew}
use Rattle.mutex_groups.specs.Groups.{Group, HasOne, IsTheOne}
use Rattle.mutex_groups.specs.Groups.{precondition_holds}

-- the invariant of the task leaves nothing out: each vector after the uncertain entries is a state, and
-- so is each after an outcome of an action from a reachable state in which its precondition holds. So
-- without the invariant the same states are reached, by the same steps
pub record ExcludesNothing (task : Task) : Type 0 where
  pub initial : (v : Vector) → Contains (initial_vectors task) v → in_space task v ≡ true
  pub kept : (v w : Vector) (a : ℕ) → IsReachable (system_of task) v
      → precondition_holds task v a ≡ true → Contains (states_after task v a) w
      → in_space task w ≡ true

-- Private: a condition holds wherever exactly one member of a group is true, of each of some groups
abbrev pub FollowsFrom : Group → Cond → Type 0
FollowsFrom group cond =
    (value : ℕ → Bool) → HasOne group value → IsFew value → holds cond value ≡ true

abbrev pub FollowsAt : Group → ℕ → Cond → Type 0
FollowsAt group g cond =
    (value : ℕ → Bool) → IsTheOne group g value → IsFew value → holds cond value ≡ true

abbrev pub Follows : List State → Cond → Type 0
Follows groups cond =
    (value : ℕ → Bool) → All (λ (members : State). HasOne (truth members) value) groups
    → IsFew value → holds cond value ≡ true
