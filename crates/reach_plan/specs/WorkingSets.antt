-- The working sets of a search for a weak or a strong plan, of which the nodes bound what it needs.
use Rattle.std.specs.Prelude.{ℕ, ◌+◌, ◌<◌, ◌≤◌}
use Rattle.dd_nodes.specs.Subfunctions.{Function}
use Rattle.dd_sets.specs.Rooms.{Small}
use Rattle.encode_task.specs.TaskSets.{initial_set, space_set, states_in}
use Rattle.encode_task.specs.WorkingSets.{IsMadeByEncode}
use Rattle.preimage.specs.WorkingSets.{IsMadeByRounds, first_every, first_some}
use Rattle.task_core.specs.Tasks.{action_count, fluent_count, system_of}
use Rattle.task_core.specs.declared.classes.Class.{Class}
use Rattle.task_core.specs.declared.classes.Class.TheVariants.{Weak, Strong, Cyclic}
use Rattle.task_core.specs.declared.tasks.Task.{Task}
use Rattle.plan_theory.specs.Layers.{IsLastLayer, layer}
use Rattle.plan_theory.specs.LayerPlans.{takers}

-- how the first outcomes of an action are to lead into a set: some one of them for weak plans, every
-- one for strong plans
abbrev pub first_of : Class → Task → ℕ → ℕ → Function → Function
first_of Weak = first_some
first_of Strong = first_every
first_of Cyclic = first_some

-- the sets of states that are gone back from: the initial states, all states, and each layer
pub data IsRoundSet (class : Class) (task : Task) : Function → Type 0 where
  initial_round : IsRoundSet class task (initial_set task)
  space_round : IsRoundSet class task (space_set task)
  layer_round : (k : ℕ) → IsRoundSet class task (states_in task (layer class (system_of task) k))

-- the sets that are made of the task, those that belong to a set that is gone back from, and where
-- there is a plan, for each action the states within one of its layers to which it gives the action
pub data IsWorkingSet (class : Class) (task : Task) : Function → Type 0 where
  by_task : (set : Function) → IsMadeByEncode task set → IsWorkingSet class task set
  by_rounds : (set : Function)
      → IsMadeByRounds task (first_of class) (IsRoundSet class task) set
      → IsWorkingSet class task set
  taken : (layers k a : ℕ) → IsLastLayer class (system_of task) layers → k ≤ layers
      → a < action_count task
      → IsWorkingSet class task (states_in task (takers class (system_of task) k a))

-- each working set is small by a width, which is more than the fluents by two at least
pub record BoundsReachSets (width : ℕ) (class : Class) (task : Task) : Type 0 where
  pub wide : fluent_count task + 2 ≤ width
  pub each : (set : Function) → IsWorkingSet class task set
      → Small (fluent_count task) width set
