use Rattle.std.proofs.Common.{◌+◌, ◌*◌, subst, arith}
use Rattle.task_core.specs.Tasks.{action_count}
use Rattle.task_core.specs.declared.classes.Class.{Class}
use Rattle.plan_command.specs.Enough.{BoundsSets}
use Rattle.plan_command.proofs.class_search.find_plan.Goals as goal

pub returns-in-Weak-clause-full : goal.returns-in-Weak-clause-full
returns-in-Weak-clause-full c full w bounds =
    c.no_room_of_fewer.ensures w _ _ (action_count c.args.task.now + 24) (3 * action_count c.args.task.now + 32) 16 16 (omega arith) (omega arith)
    (c.weak_plan.ensures.full full w (subst (λ (k : Class). BoundsSets k c.args.task.now w) c.in-Weak.is bounds))

pub returns-in-Strong-clause-full : goal.returns-in-Strong-clause-full
returns-in-Strong-clause-full c full w bounds =
    c.no_room_of_fewer.ensures w _ _ (action_count c.args.task.now + 24) (3 * action_count c.args.task.now + 32) 16 16 (omega arith) (omega arith)
    (c.strong_plan.ensures.full full w (subst (λ (k : Class). BoundsSets k c.args.task.now w) c.in-Strong.is bounds))

pub returns-in-Cyclic-clause-full : goal.returns-in-Cyclic-clause-full
returns-in-Cyclic-clause-full c full w bounds =
    c.strong_cyclic_plan.ensures.full full w (subst (λ (k : Class). BoundsSets k c.args.task.now w) c.in-Cyclic.is bounds)
