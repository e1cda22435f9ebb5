-- Private: what is found for a goal whose actions may be tried again, over a task.
use Rattle.std.specs.Prelude.{◌≡◌, ◌⊎◌, ℕ, Some, [], codes}
use Rattle.ctl_syntax.specs.Conditions.{condition_value}
use Rattle.ctl_syntax.specs.GoalValues.{tree_of_goal}
use Rattle.ctl_syntax.specs.Goals.{map_plain}
use Rattle.ctl_syntax.specs.Values.{ctl_value}
use Rattle.ctl_syntax.specs.declared.context_goals.ContextGoal.{ContextGoal}
use Rattle.ctl_syntax.specs.declared.context_goals.ContextGoal.TheVariants.{Patrol, Until}
use Rattle.ctl_syntax.specs.declared.goals.Ctl.{Ctl}
use Rattle.dd_sets.specs.Frames.{Owns}
use Rattle.dd_sets.specs.Rooms.{IsAtLimit}
use Rattle.encode_task.specs.Made.{MadeOf}
use Rattle.encode_task.specs.Slots.{Encoded}
use Rattle.fair_plan.specs.Found.{CanBeHad}
use Rattle.fair_plan.specs.declared.found.FairFound.{FairFound}
use Rattle.fair_plan.specs.declared.found.FairFound.TheVariants.{NoPlan, Plan}
use Rattle.fair_theory.specs.FairGoals.{fair_tree, most_fair_stages}
use Rattle.fair_theory.specs.FairPlans.{HasNoFairPlan}
use Rattle.fair_theory.specs.FairSets.{SetGoal}
use Rattle.ground_task.specs.declared.grounding.Grounded.{Grounded}
use Rattle.task_core.specs.Tasks.{system_of}
use Rattle.task_core.specs.declared.tasks.Task.{Task}
use Rattle.command_base.specs.Answers.{Answer, Refusal, no_memory, over_limit}
use Rattle.command_base.specs.Words.{with_contexts}
use Rattle.control_command.specs.Judged.{HasLongJudged, IsJudgedShown}
use Rattle.control_command.specs.declared.words.Shape.{Shape}
use Rattle.ctl_syntax.specs.GoalSizes.{most_visits}

-- how many stages or visits a goal may have
abbrev pub most_fair_of : ContextGoal → ℕ
most_fair_of (Until chain) = most_fair_stages
most_fair_of (Patrol visits) = most_visits

-- what a search found: that the goal can be had, or that there is no plan
abbrev pub IsFairlyFound : Task → SetGoal → FairFound → Type 0
IsFairlyFound task goal (Plan plan) = CanBeHad (system_of task) goal
IsFairlyFound task goal NoPlan = HasNoFairPlan (system_of task) goal

-- the table of a search was full; it left the sets of the task in their slots, and no others
pub record LacksFairRoom (task : Task) (before after : Encoded) : Type 0 where
  pub made : MadeOf task after
  pub slots : Owns before.sets after.sets []
  pub at_limit : IsAtLimit after.sets

-- a goal stands for one whose actions may be tried again
abbrev pub IsTranslated : ContextGoal → Ctl → Type 0
IsTranslated goal made =
    map_plain condition_value (ctl_value made) ≡ fair_tree (tree_of_goal goal)

-- the task with another goal
abbrev pub with_goal : Task → Ctl → Grounded
with_goal task made = record { task = task; ctl = Some made }

-- a plan is shown that was judged by the goal that stands for this one
pub record IsFairlyShown (shape : Shape) (task : Task) (goal : ContextGoal) (answer : Answer)
    : Type 0 where
  pub made : Ctl
  pub translated : IsTranslated goal made
  pub shown : IsJudgedShown with_contexts shape (with_goal task made) answer

-- a plan was judged so whose text is too long
pub record HasLongFairly (task : Task) (goal : ContextGoal) : Type 0 where
  pub made : Ctl
  pub translated : IsTranslated goal made
  pub long : HasLongJudged with_contexts (with_goal task made)

-- why none is shown of a plan: want of memory, or a text that is too long
abbrev pub IsFairlyMade : Task → ContextGoal → Refusal → Type 0
IsFairlyMade task goal refusal =
    (refusal ≡ no_memory)
    ⊎ (HasLongFairly task goal × (refusal ≡ over_limit (codes "file")))

-- the same of a plan that may not be judged to be good
abbrev pub IsFairlyRefused : Task → ContextGoal → Refusal → Type 0
IsFairlyRefused task goal refusal =
    IsFairlyMade task goal refusal ⊎ (refusal ≡ over_limit (codes "configurations"))
