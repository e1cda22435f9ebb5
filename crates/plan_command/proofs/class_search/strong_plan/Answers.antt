use Rattle.task_core.specs.Tasks.{system_of}
use Rattle.task_core.specs.declared.classes.Class.TheVariants.{Strong}
use Rattle.plan_command.proofs.PlanAnswers.{found_plan, shortest_strong}
use Rattle.plan_command.proofs.class_search.strong_plan.Goals as goal

pub returns-clause-found : goal.returns-clause-found
returns-clause-found c =
    let sys = system_of c.args.task.now in
    found_plan Strong c.args.task.now c.plan_strong.result
    (λ rules is. shortest_strong sys is.0 rules (c.printed_plan_is_shortest.ensures.strong sys) c.tasks_have_systems.ensures.system is.2) c.plan_strong.ensures.answer
