use Rattle.task_core.proofs.TaskSystem.{are_numbered, is_system}
use Rattle.task_core.proofs.laws.tasks_have_systems.Goals as goal

pub returns-clause-system : goal.returns-clause-system
returns-clause-system c = is_system c.args.task.now

pub returns-clause-numbered : goal.returns-clause-numbered
returns-clause-numbered c = are_numbered c.args.task.now
