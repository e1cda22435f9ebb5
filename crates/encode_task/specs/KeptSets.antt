-- The sets that are kept for a task.
use Rattle.std.specs.Prelude.{ℕ, List, [], ◌∷◌, ◌++◌, map, Contains}
use Rattle.std.specs.Prelude.{Option, Some, None}
use Rattle.std.specs.List.{flat_map, range_with_len}
use Rattle.dd_nodes.specs.Subfunctions.{Function, nodes}
use Rattle.task_core.specs.Actions.{after_value}
use Rattle.task_core.specs.Tasks.{fluent_count}
use Rattle.task_core.specs.declared.actions.GroundAction.{GroundAction}
use Rattle.task_core.specs.declared.actions.Outcome.{Outcome}
use Rattle.task_core.specs.declared.conditions.Cond.{Cond}
use Rattle.task_core.specs.declared.tasks.Task.{Task}
use Rattle.dd_sets.specs.LiveSets.{LiveSets, IsLive, set_of}
use Rattle.encode_task.specs.TaskSets.{exec_of, goal_set, initial_set, lands_of, space_set}

-- the next value of each fluent under an outcome
abbrev pub next_sets : ℕ → Outcome → List Function
next_sets fluents outcome =
    map (λ (f : ℕ) values. after_value outcome values f) (range_with_len 0 fluents)

-- the sets of an action: where it can be executed, what each outcome leads to states, and the next
-- values under each outcome
abbrev pub sets_of_action : ℕ → Cond → GroundAction → List Function
sets_of_action fluents invariant action =
    exec_of invariant action ∷ map (lands_of invariant) action.outcomes.items
    ++ flat_map (next_sets fluents) action.outcomes.items

-- the goal states, where there is a goal
abbrev pub sets_of_goal : Task → Option Cond → List Function
sets_of_goal task None = []
sets_of_goal task (Some goal) = goal_set task goal ∷ []

-- the sets of a task: its states, its initial states, its goal states, and those of each action
abbrev pub kept_sets : Task → List Function
kept_sets task =
    space_set task ∷ initial_set task ∷ sets_of_goal task task.goal
    ++ flat_map (sets_of_action (fluent_count task) task.invariant) task.actions.items

-- how many nodes the sets of a task have together
abbrev pub kept_nodes : Task → ℕ
kept_nodes task = nodes (fluent_count task) (kept_sets task)

-- each live slot holds a set of a task
abbrev pub AreKept : Task → LiveSets → Type 0
AreKept task sets = (slot : ℕ) → IsLive sets slot → Contains (kept_sets task) (set_of sets slot)
