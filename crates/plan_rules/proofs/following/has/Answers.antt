use Rattle.task_core.specs.Tasks.{fluent_count}
use Rattle.task_core.proofs.TaskSystem.{value_of-vector}
use Rattle.plan_rules.proofs.following.has.Goals as goal
use Rattle.task_core.proofs.Changes.{beq_same}

pub returns : goal.returns
returns c =
    rw (value_of-vector (fluent_count c.args.task.now) c.args.state.now c.args.lit.now.fluent.0 c.requires, c.get.ensures.value)
    (beq_same _ _)
