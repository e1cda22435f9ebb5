use Rattle.std.proofs.Common.{take}
use Rattle.task_core.specs.Actions.{outcome_is_shallow, outcome_within}
use Rattle.short_conditions.specs.Meanings.{ReplacesEach, outcome_meaning}
use Rattle.short_conditions.proofs.tasks.short_outcomes.Given as goal

abbrev pub invariant-loop-outcome : goal.invariant-loop-outcome
invariant-loop-outcome l = ReplacesEach outcome_meaning outcome_within outcome_is_shallow (take l.outcome-index l.outcomes) l.short.items
