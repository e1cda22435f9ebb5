use Rattle.std.proofs.Common.{◌≡◌, ◌<◌, get_or, length, subst}
use Rattle.list_laws.proofs.Elements.{all_reached, one_reached}
use Rattle.task_core.specs.States.{truth}
use Rattle.relaxed_reach.proofs.Widened.{action_within_256}
use Rattle.mutex_groups.specs.Cases.{Keeps}
use Rattle.mutex_groups.proofs.judging.task_keeps.Goals as goal

pub action_keeps-requires-clause-action : goal.action_keeps-requires-clause-action
action_keeps-requires-clause-action c =
    let i = c.loop-action.action-index in
    let x = c.action-item.result in
    let items = c.deref-action-items.ensures.value in
    action_within_256 c.args.task.now i x (subst (λ xs. i < length xs) items c.loop-action-test.true) (subst (λ xs. x ≡ get_or xs i x) items c.action-item.is)

pub loop-action-preserved : goal.loop-action-preserved
loop-action-preserved c =
    one_reached (Keeps (truth c.args.members.now)) c.deref-action-items.result.now c.loop-action.action-index c.action-item.result c.loop-action-test.true c.action-item.is c.loop-action.invariant
    (c.action_keeps.ensures c.if-not-action_keeps.false)

pub returns : goal.returns
returns c = λ _.
    all_reached (Keeps (truth c.args.members.now)) c.deref-action-items.result.now c.args.task.now.actions.items c.loop-action.action-index c.loop-action-test.false
    c.deref-action-items.ensures.value c.loop-action.invariant
