use Rattle.task_core.specs.Actions.{change_is_shallow, change_within}
use Rattle.short_conditions.specs.Meanings.{change_meaning}
use Rattle.short_conditions.proofs.ReplaceLemmas.{replaces_all, replaces_more, replaces_start}
use Rattle.short_conditions.proofs.tasks.short_changes.Goals as goal

pub loop-change-init : goal.loop-change-init
loop-change-init c = replaces_start change_meaning change_within change_is_shallow c.args.changes.now _ c.new-short.ensures.items

pub loop-change-preserved : goal.loop-change-preserved
loop-change-preserved c =
    replaces_more change_meaning change_within change_is_shallow c.args.changes.now c.loop-change.change-index c.change-item.result c.loop-change.short.items c.in_ok-short_change.field-0 _
    c.loop-change-test.true c.change-item.is c.in_ok-push.ensures.items c.loop-change.invariant c.in_ok-short_change.ensures

pub returns : goal.returns
returns c = replaces_all change_meaning change_within change_is_shallow c.args.changes.now c.loop-change.change-index c.loop-change.short.items c.loop-change-test.false c.loop-change.invariant
