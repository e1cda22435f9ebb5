-- Private: what a search for the plan of a patrol goal answers.
use Rattle.std.specs.Prelude.{◌≡◌, List, Result, Ok, Err, length}
use Rattle.plan_theory.specs.PatrolPlans.{HasNoPatrolPlan, IsPatrolPlan}
use Rattle.plan_theory.specs.PatrolPrinted.{patrol_rules}
use Rattle.dd_sets.specs.declared.errors.SetErr.{SetErr}
use Rattle.dd_sets.specs.declared.errors.SetErr.TheVariants.{Full}
use Rattle.plan_rules.specs.Denoted.{denoted_contexts}
use Rattle.plan_rules.specs.Plans.{IsAutomatonOf}
use Rattle.plan_rules.specs.Rules.{context_rules_of}
use Rattle.plan_rules.specs.declared.rules.AutoPlan.{AutoPlan}
use Rattle.slot_board.specs.Board.{HasNoRoom, Scene}
use Rattle.task_core.specs.Cubes.{SetOfVectors}
use Rattle.task_core.specs.Tasks.{action_count, fluent_count, system_of}
use Rattle.task_core.specs.declared.tasks.Task.{Task}
use Rattle.context_plan.specs.Scenes.{IsAt, Start, board_of}
use Rattle.context_plan.specs.declared.found.FoundAuto.{FoundAuto}
use Rattle.context_plan.specs.declared.found.FoundAuto.TheVariants.{NoPlan, Plan}

-- a plan for the task, and all that is said of it
pub record IsPatrolPlanOf (task : Task) (visits : List SetOfVectors) (plan : AutoPlan)
    : Type 0 where
  pub contexts : plan.contexts ≡ length visits
  pub printed : context_rules_of plan ≡ patrol_rules (system_of task) visits
  pub in_task : IsAutomatonOf (fluent_count task) (action_count task) plan.contexts
      (context_rules_of plan)
  pub solves : IsPatrolPlan (system_of task) visits (denoted_contexts (context_rules_of plan))

abbrev pub IsPatrolAnswer : Task → List SetOfVectors → FoundAuto → Type 0
IsPatrolAnswer task visits (Plan plan) = IsPatrolPlanOf task visits plan
IsPatrolAnswer task visits NoPlan = HasNoPatrolPlan (system_of task) visits

-- what a search leaves: its answer, or a refusal
abbrev pub PatrolEnds : Start → Scene → List SetOfVectors → Result FoundAuto SetErr → Type 0
PatrolEnds start x visits (Ok found) = IsAt start x × IsPatrolAnswer start.task visits found
PatrolEnds start x visits (Err e) = IsAt start x × (e ≡ Full → HasNoRoom (board_of start) x.0)
