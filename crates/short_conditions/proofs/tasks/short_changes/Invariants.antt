use Rattle.std.proofs.Common.{take}
use Rattle.task_core.specs.Actions.{change_is_shallow, change_within}
use Rattle.short_conditions.specs.Meanings.{ReplacesEach, change_meaning}
use Rattle.short_conditions.proofs.tasks.short_changes.Given as goal

abbrev pub invariant-loop-change : goal.invariant-loop-change
invariant-loop-change l = ReplacesEach change_meaning change_within change_is_shallow (take l.change-index l.changes) l.short.items
