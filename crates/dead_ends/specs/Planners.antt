-- What a planner finds.
use Rattle.std.specs.Prelude.{◌≢◌, ℕ, ⊤, [], ◌≡◌}
use Rattle.std.specs.List.{All, Contains}
use Rattle.plan_rules.specs.Denoted.{denoted}
use Rattle.plan_rules.specs.Plans.{IsRuleOf}
use Rattle.plan_rules.specs.Rules.{rules_of}
use Rattle.plan_rules.specs.declared.rules.TablePlan.{TablePlan}
use Rattle.plan_theory.specs.Bounds.{ReachesGoalWithin}
use Rattle.plan_theory.specs.declared.answers.Found.{Found}
use Rattle.plan_theory.specs.declared.answers.Found.TheVariants.{NoPlan, Plan}
use Rattle.task_core.specs.Solutions.{HasNoSolution, IsSolution}
use Rattle.task_core.specs.Systems.{System}
use Rattle.task_core.specs.Tables.{IsTable, Table}
use Rattle.task_core.specs.Tasks.{action_count, fluent_count, initial_states, system_of}
use Rattle.task_core.specs.Vectors.{Vector}
use Rattle.task_core.specs.declared.classes.Class.{Class}
use Rattle.task_core.specs.declared.classes.Class.TheVariants.{Cyclic, Strong, Weak}
use Rattle.task_core.specs.declared.tasks.Task.{Task}

-- from each initial state the table reaches a terminal goal state in as few steps as any other table
abbrev pub IsBrief : System → Table → Type 0
IsBrief sys rows =
    (other : Table) (s : Vector) (n : ℕ) → Contains sys.initial s
    → ReachesGoalWithin sys other s n → ReachesGoalWithin sys rows s n

-- this is asked of weak plans alone
abbrev pub IsBriefFor : Class → System → Table → Type 0
IsBriefFor Weak sys rows = IsBrief sys rows
IsBriefFor Strong sys rows = ⊤
IsBriefFor Cyclic sys rows = ⊤

-- the plan is a solution of the class
pub record IsPlanFor (class : Class) (task : Task) (plan : TablePlan) : Type 0 where
  pub of_class : plan.class ≡ class
  pub in_task : All (IsRuleOf (fluent_count task) (action_count task)) (rules_of plan)
  pub table : IsTable (system_of task) (denoted (system_of task) (rules_of plan))
  pub solves : IsSolution class (system_of task) (denoted (system_of task) (rules_of plan))
  pub brief : IsBriefFor class (system_of task) (denoted (system_of task) (rules_of plan))

-- such a plan, or that there is none, for a task that has an initial state
abbrev pub IsFoundFor : Class → Task → Found → Type 0
IsFoundFor class task (Plan plan) = (initial_states task ≢ []) × IsPlanFor class task plan
IsFoundFor class task NoPlan =
    (initial_states task ≢ []) × HasNoSolution class (system_of task)
