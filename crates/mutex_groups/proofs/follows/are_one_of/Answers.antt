use Rattle.std.proofs.Common.{refl}
use Rattle.list_laws.proofs.Elements.{all_reached, one_reached}
use Rattle.task_core.specs.States.{truth}
use Rattle.task_core.specs.declared.states.State.{State}
use Rattle.mutex_groups.specs.Groups.{IsInductive}
use Rattle.mutex_groups.proofs.follows.are_one_of.Goals as goal

pub loop-members-preserved : goal.loop-members-preserved
loop-members-preserved c =
    one_reached (λ (members : State). IsInductive c.args.task.now (truth members)) c.args.groups.now c.loop-members.members-index c.members-item.result c.loop-members-test.true c.members-item.is
    c.loop-members.invariant (c.is_one_of.ensures.inductive c.if-not-is_one_of.false)

pub returns : goal.returns
returns c = λ _.
    all_reached (λ (members : State). IsInductive c.args.task.now (truth members)) c.args.groups.now c.args.groups.now c.loop-members.members-index c.loop-members-test.false refl c.loop-members.invariant
