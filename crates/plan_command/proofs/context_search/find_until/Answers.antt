use Rattle.plan_command.proofs.ContextFound.{found_until}
use Rattle.plan_command.proofs.context_search.find_until.Goals as goal

pub returns-clause-found : goal.returns-clause-found
returns-clause-found c =
    let e = c.plan_until.ensures in
    found_until c.args.task.now c.args.chain.now c.plan_until.result e.contexts e.printed e.in_task e.complete e.solves e.no_plan
