-- The preimages of a set under an action (Cimatti, Pistore, Roveri, Traverso 2003: the weak and the
-- strong preimage), each as the test of its members.
use Rattle.std.specs.Prelude.{ℕ, not, ◌&&◌, ◌||◌}
use Rattle.std.specs.List.{list_all, list_any}
use Rattle.dd_nodes.specs.Subfunctions.{Function}
use Rattle.task_core.specs.Actions.{after_value}
use Rattle.task_core.specs.Tasks.{outcomes_at}
use Rattle.task_core.specs.declared.tasks.Task.{Task}
use Rattle.encode_task.specs.Made.{MadeOf}
use Rattle.encode_task.specs.Slots.{Encoded}
use Rattle.encode_task.specs.TaskSets.{exec_set, space_set}

-- where some outcome of action a leads to a state in a set, and where every outcome that leads to a
-- state leads into the set
abbrev pub some_outcome_in : Task → ℕ → Function → Function
some_outcome_in task a set values =
    list_any (λ o. space_set task (after_value o values) && set (after_value o values))
    (outcomes_at task a)

abbrev pub every_outcome_in : Task → ℕ → Function → Function
every_outcome_in task a set values =
    list_all (λ o. not (space_set task (after_value o values)) || set (after_value o values))
    (outcomes_at task a)

-- where the action can be executed, and some outcome leads to a state in the set, or every outcome
-- that leads to a state leads into the set
abbrev pub weak_preimage : Task → ℕ → Function → Function
weak_preimage task a set values = exec_set task a values && some_outcome_in task a set values

abbrev pub strong_preimage : Task → ℕ → Function → Function
strong_preimage task a set values = exec_set task a values && every_outcome_in task a set values

-- the sets are those of some task
abbrev pub OfSomeTask : Encoded → Type 0
OfSomeTask enc = (task : Task) × MadeOf task enc
