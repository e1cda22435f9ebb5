-- How many slots the sets of a task take, and how many more while they are made.
use Rattle.std.specs.Prelude.{ℕ, ◌+◌, ◌*◌}
use Rattle.task_core.specs.Systems.{most_outcomes}
use Rattle.task_core.specs.Tasks.{action_count, fluent_count, system_of}
use Rattle.task_core.specs.declared.tasks.Task.{Task}

-- a bound on the slots of all actions: for each action one, and for each outcome one a fluent and
-- one for what it leads to states
abbrev pub action_slots : Task → ℕ
action_slots task =
    action_count task * (most_outcomes (system_of task) * (fluent_count task + 1) + 1)

-- the most slots that are kept for a task, and the most that are live while they are made
abbrev pub kept_slots : Task → ℕ
kept_slots task = action_slots task + 5

abbrev pub working_slots : Task → ℕ
working_slots task = action_slots task + 220
