use Rattle.std.proofs.Common.{List, subst, sym}
use Rattle.ctl_syntax.specs.declared.context_goals.ContextGoal.{ContextGoal}
use Rattle.context_plan.specs.Chains.{visit_sets}
use Rattle.task_core.specs.declared.conditions.Cond.{Cond}
use Rattle.plan_command.specs.FoundGoals.{IsGoalSearched}
use Rattle.plan_command.specs.GoalConditions.{sets_of_goal}
use Rattle.plan_command.specs.GoalSets.{of_patrol}
use Rattle.plan_command.proofs.ContextFound.{IsFullFor, IsPatrolFull}
use Rattle.plan_command.proofs.context_search.find_contexts.Goals as goal

pub returns-in-Until-clause-found : goal.returns-in-Until-clause-found
returns-in-Until-clause-found c =
    subst (λ (g : ContextGoal). IsGoalSearched c.args.task.now (sets_of_goal g) c.find_until.result) (sym c.in-Until.is) c.find_until.ensures.found

pub returns-in-Until-clause-full : goal.returns-in-Until-clause-full
returns-in-Until-clause-full c =
    subst (λ (g : ContextGoal). IsFullFor c.args.task.now c.args.enc.now.sets c.find_until.new.enc.sets c.find_until.result g) (sym c.in-Until.is) c.find_until.ensures.full

pub returns-in-Patrol-clause-found : goal.returns-in-Patrol-clause-found
returns-in-Patrol-clause-found c =
    subst (λ (g : ContextGoal). IsGoalSearched c.args.task.now (sets_of_goal g) c.find_patrol.result) (sym c.in-Patrol.is)
    (subst (λ (xs : List Cond). IsGoalSearched c.args.task.now (of_patrol (visit_sets xs)) c.find_patrol.result) c.as_slice.ensures.value c.find_patrol.ensures.found)

pub returns-in-Patrol-clause-full : goal.returns-in-Patrol-clause-full
returns-in-Patrol-clause-full c =
    subst (λ (g : ContextGoal). IsFullFor c.args.task.now c.args.enc.now.sets c.find_patrol.new.enc.sets c.find_patrol.result g) (sym c.in-Patrol.is)
    (subst (IsPatrolFull c.args.task.now c.args.enc.now.sets c.find_patrol.new.enc.sets c.find_patrol.result) c.as_slice.ensures.value c.find_patrol.ensures.full)
