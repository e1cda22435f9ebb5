-- Private: what a search answers.
use Rattle.std.specs.Prelude.{◌≡◌, Bool, true, false, Result, Ok, Err}
use Rattle.plan_theory.specs.UntilChains.{UntilSets, until_contexts}
use Rattle.plan_theory.specs.UntilPlans.{HasNoUntilPlan, IsUntilPlan}
use Rattle.plan_theory.specs.UntilPrinted.{until_rules}
use Rattle.dd_sets.specs.declared.errors.SetErr.{SetErr}
use Rattle.dd_sets.specs.declared.errors.SetErr.TheVariants.{Full}
use Rattle.plan_rules.specs.Denoted.{denoted_contexts}
use Rattle.plan_rules.specs.Plans.{IsAutomatonOf}
use Rattle.plan_rules.specs.Rules.{context_rules_of}
use Rattle.plan_rules.specs.declared.rules.AutoPlan.{AutoPlan}
use Rattle.slot_board.specs.Board.{HasNoRoom, Scene}
use Rattle.task_core.specs.Tasks.{action_count, fluent_count, system_of}
use Rattle.task_core.specs.declared.tasks.Task.{Task}
use Rattle.context_plan.specs.Scenes.{IsAt, Start, board_of}
use Rattle.context_plan.specs.Tables.{HasTable}
use Rattle.context_plan.specs.declared.found.FoundAuto.{FoundAuto}
use Rattle.context_plan.specs.declared.found.FoundAuto.TheVariants.{NoPlan, Plan}

-- a plan for the task, and all that is said of it
pub record IsPlanOf (task : Task) (chain : UntilSets) (plan : AutoPlan) : Type 0 where
  pub contexts : plan.contexts ≡ until_contexts chain
  pub printed : context_rules_of plan ≡ until_rules (system_of task) chain
  pub in_task : IsAutomatonOf (fluent_count task) (action_count task) plan.contexts
      (context_rules_of plan)
  pub solves : IsUntilPlan (system_of task) chain (denoted_contexts (context_rules_of plan))

abbrev pub IsAnswer : Task → UntilSets → FoundAuto → Type 0
IsAnswer task chain (Plan plan) = IsPlanOf task chain plan
IsAnswer task chain NoPlan = HasNoUntilPlan (system_of task) chain

-- what a search leaves: the printed table on its board, or that no plan has the until-chain
abbrev pub Ends : Start → Scene → UntilSets → Result Bool SetErr → Type 0
Ends start x chain (Ok true) = HasTable start x chain
Ends start x chain (Ok false) = IsAt start x × HasNoUntilPlan (system_of start.task) chain
Ends start x chain (Err e) = IsAt start x × (e ≡ Full → HasNoRoom (board_of start) x.0)
