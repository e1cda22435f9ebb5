-- The groups that are found.
use Rattle.std.specs.Prelude.{List}
use Rattle.std.specs.List.{All}
use Rattle.mutex_groups.specs.Groups.{AreInductive}
use Rattle.task_core.specs.declared.tasks.Task.{Task}
use Rattle.lint_shapes.specs.declared.shapes.OneOf.{OneOf}

-- exactly one fluent of each group of each shape is true at the start, and no outcome of an action
-- changes that
abbrev pub AreFound : Task → List OneOf → Type 0
AreFound task found = All (λ (one : OneOf). AreInductive task one.groups.items) found
