use Rattle.pddl_system.proofs.SystemsAgree.{task_has_the_system}
use Rattle.pddl_system.proofs.laws.tasks_have_the_system.Goals as goal

pub returns : goal.returns
returns c = task_has_the_system
