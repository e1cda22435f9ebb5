use Rattle.task_core.specs.Tasks.{system_of}
use Rattle.task_core.specs.declared.classes.Class.TheVariants.{Weak}
use Rattle.plan_command.proofs.PlanAnswers.{found_plan, shortest_weak}
use Rattle.plan_command.proofs.class_search.weak_plan.Goals as goal

pub returns-clause-found : goal.returns-clause-found
returns-clause-found c =
    let sys = system_of c.args.task.now in
    found_plan Weak c.args.task.now c.plan_weak.result
    (λ rules is. shortest_weak sys is.0 rules (c.printed_plan_is_shortest.ensures.weak sys) c.tasks_have_systems.ensures.system is.1 is.2) c.plan_weak.ensures.answer
