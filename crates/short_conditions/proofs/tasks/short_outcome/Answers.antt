use Rattle.task_core.specs.Actions.{change_is_shallow, change_within}
use Rattle.short_conditions.specs.Meanings.{change_meaning}
use Rattle.short_conditions.proofs.ReplaceLemmas.{outcome_replaces, replaces_along}
use Rattle.short_conditions.proofs.tasks.short_outcome.Goals as goal

pub returns : goal.returns
returns c =
    outcome_replaces c.args.outcome.now _
    (replaces_along change_meaning change_within change_is_shallow c.deref.result.now c.args.outcome.now.changes.items c.in_ok-changes.changes.items c.deref.ensures.value c.in_ok-changes.ensures)
