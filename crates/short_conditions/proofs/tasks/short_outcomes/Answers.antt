use Rattle.task_core.specs.Actions.{outcome_is_shallow, outcome_within}
use Rattle.short_conditions.specs.Meanings.{outcome_meaning}
use Rattle.short_conditions.proofs.ReplaceLemmas.{replaces_all, replaces_more, replaces_start}
use Rattle.short_conditions.proofs.tasks.short_outcomes.Goals as goal

pub loop-outcome-init : goal.loop-outcome-init
loop-outcome-init c = replaces_start outcome_meaning outcome_within outcome_is_shallow c.args.outcomes.now _ c.new-short.ensures.items

pub loop-outcome-preserved : goal.loop-outcome-preserved
loop-outcome-preserved c =
    replaces_more outcome_meaning outcome_within outcome_is_shallow c.args.outcomes.now c.loop-outcome.outcome-index c.outcome-item.result c.loop-outcome.short.items c.in_ok-short_outcome.field-0 _
    c.loop-outcome-test.true c.outcome-item.is c.in_ok-push.ensures.items c.loop-outcome.invariant c.in_ok-short_outcome.ensures

pub returns : goal.returns
returns c = replaces_all outcome_meaning outcome_within outcome_is_shallow c.args.outcomes.now c.loop-outcome.outcome-index c.loop-outcome.short.items c.loop-outcome-test.false c.loop-outcome.invariant
