-- A goal that never holds.
use Rattle.std.specs.Prelude.{◌≡◌, ℕ, Bool, IfSome, Option, Some, false, not, true}
use Rattle.std.specs.Option.{option_map_or}
use Rattle.never_executed.specs.Parts.{IsFalsePart}
use Rattle.relaxed_reach.specs.Literals.{LiteralSet, can_be}
use Rattle.task_core.specs.declared.conditions.Cond.{Cond}
use Rattle.task_core.specs.declared.tasks.Task.{Task}

-- whether the task has a goal, and it can't hold where just the literals of the set can be true
abbrev pub goal_is_false : Task → LiteralSet → Bool
goal_is_false task set = option_map_or (λ goal. not (can_be goal set true)) task.goal false

-- it has one that can't; and the part of it with this number can't
pub record IsGoalNever (task : Task) (set : LiteralSet) (part : Option ℕ) : Type 0 where
  pub goal : Cond
  pub wanted : task.goal ≡ Some goal
  pub never : can_be goal set true ≡ false
  pub false_part : IfSome part (λ k. IsFalsePart set k goal)
