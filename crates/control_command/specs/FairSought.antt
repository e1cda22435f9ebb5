-- Private: what is looked for where actions may be tried again, and what is answered.
use Rattle.std.specs.Prelude.{◌≡◌, ◌≤◌, ◌⊎◌, None, true}
use Rattle.ctl_syntax.specs.GoalValues.{GoalIsAtMostDeep, GoalNamesBelow}
use Rattle.ctl_syntax.specs.declared.context_goals.ContextGoal.{ContextGoal}
use Rattle.ctl_syntax.specs.declared.goals.Ctl.{Ctl}
use Rattle.ground_task.specs.declared.grounding.Grounded.{Grounded}
use Rattle.pddl_ast.specs.Trees.{DomainTree, ProblemTree}
use Rattle.pddl_ast.specs.Values.{domain_value, problem_value}
use Rattle.task_core.specs.Tasks.{fluent_count}
use Rattle.task_core.specs.declared.tasks.Task.{Task}
use Rattle.command_base.specs.Answers.{Answer, no_memory, refused}
use Rattle.command_base.specs.Grounded.{IsGroundedOf, IsTaskOf}
use Rattle.command_base.specs.Grounding.{has_goal_for}
use Rattle.command_base.specs.Values.{refusal_of, shown_of}
use Rattle.command_base.specs.Words.{IsNodeLimit, with_contexts}
use Rattle.command_base.specs.declared.answers.Refusal.{Refusal}
use Rattle.command_base.specs.declared.answers.Shown.{Shown}
use Rattle.command_base.specs.declared.words.PlanKind.TheVariants.{Contexts}
use Rattle.plan_command.specs.ContextGoals.{context_goal}
use Rattle.plan_command.specs.FoundGoals.{StandsForGoal}
use Rattle.control_command.specs.FairControllers.{FairThen}
use Rattle.control_command.specs.FairJudged.{IsFairlyMade, IsFairlyRefused, IsFairlyShown, IsTranslated}
use Rattle.control_command.specs.FairJudged.{most_fair_of, with_goal}
use Rattle.control_command.specs.Words.{FairWords}
use Rattle.control_command.specs.Values.{fair_words_of}
use Rattle.control_command.specs.declared.fair.FairSought.{FairSought}
use Rattle.control_command.specs.declared.fair_controllers.FairTask.{FairTask}
use Rattle.control_command.specs.declared.made.Wanted.{Wanted}
use Rattle.ctl_syntax.specs.GoalSizes.{count_of}

-- what holds of the words, the domain and the problem
abbrev pub HoldsFairly : FairSought → (FairWords → DomainTree → ProblemTree → Type 0) → Type 0
HoldsFairly sought Property =
    Property (fair_words_of sought.asked.now) (domain_value sought.domain.now)
    (problem_value sought.problem.now)

-- so many nodes may be asked for, the problem has a goal in computation tree logic, and the task and the
-- goals are those of the domain and the problem
pub record IsFairlyGrounded (sought : FairSought) (grounded : Grounded) : Type 0 where
  pub room : IsNodeLimit sought.asked.now.nodes
  pub goal : has_goal_for with_contexts (problem_value sought.problem.now) ≡ true
  pub of_both : IsGroundedOf (domain_value sought.domain.now) (problem_value sought.problem.now)
      grounded

-- a goal stands for the problem's goal, or none does
abbrev pub StandsFor : FairSought → ContextGoal → Type 0
StandsFor sought goal =
    StandsForGoal (domain_value sought.domain.now) (problem_value sought.problem.now) goal

abbrev pub StandsForNone : FairSought → Type 0
StandsForNone sought = context_goal (problem_value sought.problem.now) ≡ None

-- so many nodes may be asked for, the task is that of the problem, and a goal over its fluents stands for
-- the problem's
pub record IsFairGoal (sought : FairSought) (task : Task) (goal : ContextGoal) : Type 0 where
  pub room : IsNodeLimit sought.asked.now.nodes
  pub of_task : IsTaskOf (domain_value sought.domain.now) (problem_value sought.problem.now) task
  pub stands : StandsFor sought goal
  pub names : GoalNamesBelow (fluent_count task) goal
  pub shallow : GoalIsAtMostDeep 200 goal

-- the same, where the goal has few stages or visits, and the task has the goal by which plans are judged
pub record IsFairTask (sought : FairSought) (task : FairTask) : Type 0 where
  pub of_goal : IsFairGoal sought task.judged.now.task task.goal.now
  pub few : count_of task.goal.now ≤ most_fair_of task.goal.now
  pub made : Ctl
  pub translated : IsTranslated task.goal.now made
  pub judged : task.judged.now ≡ with_goal task.judged.now.task made

-- an answer to the words: want of memory, or what follows
abbrev pub IsFairAnswerFor : FairSought → Answer → Type 0
IsFairAnswerFor sought answer =
    HoldsFairly sought (λ asked domain problem. (answer ≡ refused no_memory)
    ⊎ FairThen asked domain problem answer)

-- what is shown is such an answer
abbrev pub FollowsFairly : FairSought → Shown → Type 0
FollowsFairly sought shown = IsFairAnswerFor sought (shown_of shown)

-- a plan is shown that was judged to have the goal
abbrev pub IsFairShownFor : FairSought → FairTask → Shown → Type 0
IsFairShownFor sought task shown =
    IsFairlyShown sought.asked.now.shape task.judged.now.task task.goal.now (shown_of shown)

-- why none is shown of a plan
abbrev pub IsFairMadeRefusal : FairTask → Refusal → Type 0
IsFairMadeRefusal task refusal =
    IsFairlyMade task.judged.now.task task.goal.now (refusal_of refusal)

-- the same of the plan that is found over sets
abbrev pub IsFairRefusedFor : FairTask → Refusal → Type 0
IsFairRefusedFor task refusal =
    IsFairlyRefused task.judged.now.task task.goal.now (refusal_of refusal)

-- what a plan is to be, to be shown
abbrev pub wanted_fairly : FairSought → FairTask → Wanted
wanted_fairly sought task = record {
  kind = Contexts;
  nodes = sought.asked.now.nodes;
  shape = sought.asked.now.shape;
  grounded = task.judged;
}
