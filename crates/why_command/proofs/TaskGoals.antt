-- The goal of a task.
use Rattle.std.proofs.Common.{◌≡◌, Bor, Option, None, Some}
use Rattle.std.specs.Prelude.{IfSome}
use Rattle.std.specs.Option.{option_copied}
use Rattle.task_core.specs.declared.conditions.Cond.{Cond}
use Rattle.task_core.specs.declared.tasks.Task.{Task}

pub goal_in : (task : Task) (r : Option (Bor Cond)) → task.goal ≡ option_copied r → IfSome r (λ goal. task.goal ≡ Some goal.now)
goal_in task None is = tt
goal_in task (Some goal) is = is
