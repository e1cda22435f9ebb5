use Rattle.std.proofs.Common.{take}
use Rattle.task_core.specs.Actions.{action_is_shallow, action_within}
use Rattle.short_conditions.specs.Meanings.{ReplacesEach, action_meaning}
use Rattle.short_conditions.proofs.tasks.short_actions.Given as goal

abbrev pub invariant-loop-action : goal.invariant-loop-action
invariant-loop-action l = ReplacesEach action_meaning action_within action_is_shallow (take l.action-index l.actions) l.short.items
