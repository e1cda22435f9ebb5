use Rattle.std.proofs.Common.{sym}
use Rattle.relaxed_reach.proofs.TaskGoals.{goal_in_below}
use Rattle.why_command.proofs.TaskGoals.{goal_in}
use Rattle.why_command.proofs.never.goal_of.Goals as goal

pub returns-clause-wanted : goal.returns-clause-wanted
returns-clause-wanted c = goal_in c.args.task.now c.as_ref.result (sym c.as_ref.ensures.value)

pub returns-clause-below : goal.returns-clause-below
returns-clause-below c = goal_in_below c.args.task.now c.as_ref.result (sym c.as_ref.ensures.value)
