-- What a planner of state-action tables found: the plan of a class that is printed, or that there is
-- none.
use Rattle.std.specs.Prelude.{◌≡◌, All}
use Rattle.plan_rules.specs.Denoted.{IsExecutable, denoted}
use Rattle.plan_rules.specs.Plans.{IsRuleOf}
use Rattle.plan_rules.specs.Rules.{rules_of}
use Rattle.plan_rules.specs.declared.rules.TablePlan.{TablePlan}
use Rattle.task_core.specs.Solutions.{HasNoSolution, IsSolution}
use Rattle.task_core.specs.Tables.{IsTable}
use Rattle.task_core.specs.Tasks.{action_count, fluent_count, system_of}
use Rattle.task_core.specs.declared.classes.Class.{Class}
use Rattle.task_core.specs.declared.tasks.Task.{Task}
use Rattle.plan_theory.specs.PrintedRules.{ArePrintedRules}
use Rattle.plan_theory.specs.declared.answers.Found.{Found}
use Rattle.plan_theory.specs.declared.answers.Found.TheVariants.{NoPlan, Plan}

-- a plan of the class for the task, and all that is said of it
pub record IsPlanOfClass (class : Class) (task : Task) (plan : TablePlan) : Type 0 where
  -- it names its class
  pub of_class : plan.class ≡ class
  -- its rules are those that are printed
  pub printed : ArePrintedRules class (system_of task) (rules_of plan)
  -- they are over the task's fluents and actions
  pub in_task : All (IsRuleOf (fluent_count task) (action_count task)) (rules_of plan)
  -- they denote a state-action table
  pub table : IsTable (system_of task) (denoted (system_of task) (rules_of plan))
  -- which is a solution
  pub solves : IsSolution class (system_of task) (denoted (system_of task) (rules_of plan))
  -- the action of each rule can be executed wherever the rule matches
  pub executable : IsExecutable (system_of task) (rules_of plan)

-- a planner's answer: a plan of the class, or that no table is a solution of the class
abbrev pub IsPlannersAnswer : Class → Task → Found → Type 0
IsPlannersAnswer class task (Plan plan) = IsPlanOfClass class task plan
IsPlannersAnswer class task NoPlan = HasNoSolution class (system_of task)
