-- What a search for a plan with contexts found.
use Rattle.std.specs.Prelude.{◌≡◌, true}
use Rattle.fair_theory.specs.FairPlans.{HasNoFairPlan}
use Rattle.fair_theory.specs.FairSets.{IsFairWin, SetGoal, covers_initial}
use Rattle.plan_rules.specs.Plans.{IsAutomatonOf}
use Rattle.plan_rules.specs.Rules.{context_rules_of}
use Rattle.plan_rules.specs.declared.rules.AutoPlan.{AutoPlan}
use Rattle.task_core.specs.Cubes.{SetOfVectors}
use Rattle.task_core.specs.Systems.{System}
use Rattle.task_core.specs.Tasks.{action_count, fluent_count, system_of}
use Rattle.task_core.specs.declared.tasks.Task.{Task}
use Rattle.fair_plan.specs.declared.found.FairFound.{FairFound}
use Rattle.fair_plan.specs.declared.found.FairFound.TheVariants.{NoPlan, Plan}

-- the largest set of states from which the goal can be had has each initial state
abbrev pub CanBeHad : System → SetGoal → Type 0
CanBeHad sys goal =
    (set : SetOfVectors) × IsFairWin sys goal set × (covers_initial sys set ≡ true)

-- what is said of a plan for a goal: that it has the goal is not
pub record IsPlanForGoal (task : Task) (goal : SetGoal) (plan : AutoPlan) : Type 0 where
  -- the goal can be had
  pub had : CanBeHad (system_of task) goal
  -- its rules are over the task's fluents and actions
  pub in_task : IsAutomatonOf (fluent_count task) (action_count task) plan.contexts
      (context_rules_of plan)

-- the planner's answer: a plan for a goal, or that there is none
abbrev pub IsFairPlannersAnswer : Task → SetGoal → FairFound → Type 0
IsFairPlannersAnswer task goal (Plan plan) = IsPlanForGoal task goal plan
IsFairPlannersAnswer task goal NoPlan = HasNoFairPlan (system_of task) goal
