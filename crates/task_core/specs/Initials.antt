-- When a task has too many initial states to be listed.
use Rattle.std.specs.Prelude.{ℕ, ◌<◌, ◌≤◌, length}
use Rattle.task_core.specs.Initial.{entries_of}
use Rattle.task_core.specs.Tasks.{states_after_entries}
use Rattle.task_core.specs.declared.tasks.Task.{Task}

-- there are more than `limit` different vectors after some of the first uncertain entries, none and
-- all of them included, whether they are states or not
pub record HasTooManyInitial (task : Task) (limit : ℕ) : Type 0 where
  pub entries : ℕ
  pub first : entries ≤ length (entries_of task.init)
  pub more : limit < length (states_after_entries task entries)
