use Rattle.std.proofs.Common.{refl, rules}
use Rattle.plan_rules.proofs.Spelled.{task_spells}
use Rattle.plan_rules.specs.declared.rules.Plan.TheVariants.{Auto}
use Rattle.plan_command.specs.FoundGoals.{IsPlanFor}
use Rattle.plan_command.specs.GoalConditions.{sets_of_goal}
use Rattle.plan_command.proofs.ContextAnswers.{goal_is_result}
use Rattle.plan_command.proofs.context_command.plan_for_task.Goals as goal

pub returns-in-Some-Plan-clause-plan : goal.returns-in-Some-Plan-clause-plan
returns-in-Some-Plan-clause-plan c =
    let t = c.args.task.now in
    let sets = sets_of_goal c.args.goal.now in
    let plan = c.in-Some-Plan.plan in
    search (rules, λ (found : IsPlanFor t sets plan). goal_is_result t sets plan _ found (task_spells t (Auto plan) found.in_task) refl)
