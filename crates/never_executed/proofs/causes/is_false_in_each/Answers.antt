use Rattle.std.proofs.Common.{◌≡◌, ◌<◌, get_or, length, subst, true}
use Rattle.list_laws.proofs.Elements.{all_reached, one_reached}
use Rattle.relaxed_reach.proofs.Widened.{action_within_256}
use Rattle.relaxed_reach.specs.Literals.{has}
use Rattle.task_core.specs.declared.actions.GroundAction.{GroundAction}
use Rattle.never_executed.specs.NeverRuns.{is_of}
use Rattle.never_executed.specs.Parts.{IsFalsePart}
use Rattle.never_executed.proofs.causes.is_false_in_each.Goals as goal

pub is_false_in-requires : goal.is_false_in-requires
is_false_in-requires c =
    let i = c.loop-action.action-index in
    let x = c.action-item.result in
    let items = c.deref-action-items.ensures.value in
    action_within_256 c.args.looked.now.task.now i x (subst (λ xs. i < length xs) items c.loop-action-test.true) (subst (λ xs. x ≡ get_or xs i x) items c.action-item.is)

pub loop-action-preserved : goal.loop-action-preserved
loop-action-preserved c =
    let set = has c.args.looked.now.literals.now in
    one_reached (λ (a : GroundAction). is_of c.args.name.now a ≡ true → IsFalsePart set c.args.part a.exec) c.deref-action-items.result.now c.loop-action.action-index c.action-item.result
    c.loop-action-test.true c.action-item.is c.loop-action.invariant (c.is_false_in.ensures c.if-not-is_false_in.false)

pub returns : goal.returns
returns c = λ _.
    let set = has c.args.looked.now.literals.now in
    all_reached (λ (a : GroundAction). is_of c.args.name.now a ≡ true → IsFalsePart set c.args.part a.exec) c.deref-action-items.result.now c.args.looked.now.task.now.actions.items
    c.loop-action.action-index c.loop-action-test.false c.deref-action-items.ensures.value c.loop-action.invariant
