-- Private: what is told of a task that begins in a dead end.
use Rattle.std.specs.Prelude.{◌≡◌, ℕ}
use Rattle.std.specs.Option.{option_map}
use Rattle.dead_ends.specs.ToldRuns.{IsLostIf, IsWeakRun}
use Rattle.dead_ends.specs.Values.{stray_value}
use Rattle.dead_ends.specs.declared.told_runs.Told.{Told}
use Rattle.plan_witness.specs.Values.{run_value}
use Rattle.task_core.specs.Tasks.{fluent_count, system_of}
use Rattle.task_core.specs.declared.classes.Class.{Class}
use Rattle.task_core.specs.declared.tasks.Task.{Task}

-- it has this number, a run of a weak plan, and the first outcome that leaves it to a dead end, if one is
-- told
pub record IsToldFrom (class : Class) (task : Task) (number : ℕ) (told : Told) : Type 0 where
  pub is_number : told.number ≡ number
  pub weak : IsWeakRun (system_of task) (run_value (fluent_count task) told.run)
  pub lost : IsLostIf class (system_of task) (run_value (fluent_count task) told.run)
      (option_map (stray_value (fluent_count task)) told.lost)
