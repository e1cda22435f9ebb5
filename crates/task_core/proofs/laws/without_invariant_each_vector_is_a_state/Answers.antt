use Rattle.task_core.proofs.TaskSystem.{each_vector_is_a_state}
use Rattle.task_core.proofs.laws.without_invariant_each_vector_is_a_state.Goals as goal

pub returns : goal.returns
returns c = each_vector_is_a_state c.args.task.now
