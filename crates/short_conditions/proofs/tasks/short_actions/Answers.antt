use Rattle.task_core.specs.Actions.{action_is_shallow, action_within}
use Rattle.short_conditions.specs.Meanings.{action_meaning}
use Rattle.short_conditions.proofs.ReplaceLemmas.{replaces_all, replaces_more, replaces_start}
use Rattle.short_conditions.proofs.tasks.short_actions.Goals as goal

pub loop-action-init : goal.loop-action-init
loop-action-init c = replaces_start action_meaning action_within action_is_shallow c.args.actions.now _ c.new-short.ensures.items

pub loop-action-preserved : goal.loop-action-preserved
loop-action-preserved c =
    replaces_more action_meaning action_within action_is_shallow c.args.actions.now c.loop-action.action-index c.action-item.result c.loop-action.short.items c.in_ok-short_action.field-0 _
    c.loop-action-test.true c.action-item.is c.in_ok-push.ensures.items c.loop-action.invariant c.in_ok-short_action.ensures

pub returns : goal.returns
returns c = replaces_all action_meaning action_within action_is_shallow c.args.actions.now c.loop-action.action-index c.loop-action.short.items c.loop-action-test.false c.loop-action.invariant
