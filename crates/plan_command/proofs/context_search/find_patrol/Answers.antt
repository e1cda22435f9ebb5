use Rattle.plan_command.proofs.ContextFound.{found_patrol}
use Rattle.plan_command.proofs.context_search.find_patrol.Goals as goal

pub returns-clause-found : goal.returns-clause-found
returns-clause-found c =
    let e = c.plan_patrol.ensures in
    found_patrol c.args.task.now c.args.visits.now c.plan_patrol.result e.contexts e.printed e.in_task e.complete e.solves e.no_plan
