use Rattle.task_core.specs.declared.classes.Class.TheVariants.{Cyclic}
use Rattle.plan_command.proofs.PlanAnswers.{found_plan}
use Rattle.plan_command.proofs.class_search.strong_cyclic_plan.Goals as goal

pub returns-clause-found : goal.returns-clause-found
returns-clause-found c = found_plan Cyclic c.args.task.now c.plan_cyclic.result (λ rules is. tt) c.plan_cyclic.ensures.answer
