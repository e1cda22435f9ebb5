use Rattle.task_core.specs.States.{truth}
use Rattle.mutex_groups.proofs.Soundness.{is_inductive, is_one_of}
use Rattle.mutex_groups.proofs.judging.is_one_of.Goals as goal

pub returns-then-starts_with_one-clause-inductive : goal.returns-then-starts_with_one-clause-inductive
returns-then-starts_with_one-clause-inductive c = λ keeps.
    is_inductive c.args.task.now c.args.members.now c.requires (c.task_keeps.ensures keeps) (c.starts_with_one.ensures c.if-starts_with_one.true)

pub returns-then-starts_with_one-clause-reached : goal.returns-then-starts_with_one-clause-reached
returns-then-starts_with_one-clause-reached c = λ keeps.
    is_one_of c.args.task.now (truth c.args.members.now)
    (is_inductive c.args.task.now c.args.members.now c.requires (c.task_keeps.ensures keeps) (c.starts_with_one.ensures c.if-starts_with_one.true))
