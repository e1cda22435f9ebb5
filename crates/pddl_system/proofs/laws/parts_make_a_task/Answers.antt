use Rattle.pddl_system.proofs.TaskParts.{parts_make_task}
use Rattle.pddl_system.proofs.laws.parts_make_a_task.Goals as goal

pub returns : goal.returns
returns c = parts_make_task
