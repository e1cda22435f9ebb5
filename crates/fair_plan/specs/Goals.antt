-- Which goals a search takes.
use Rattle.std.specs.Prelude.{ℕ, ◌+◌, ◌≤◌, All, List, length}
use Rattle.ctl_syntax.specs.GoalSizes.{most_stages, most_visits}
use Rattle.ctl_syntax.specs.GoalValues.{EachInUntil}
use Rattle.ctl_syntax.specs.declared.context_goals.ContextGoal.{ContextGoal}
use Rattle.ctl_syntax.specs.declared.context_goals.ContextGoal.TheVariants.{Until, Patrol}
use Rattle.ctl_syntax.specs.declared.context_goals.UntilChain.{UntilChain}
use Rattle.task_core.specs.Conditions.{IsConditionOver}
use Rattle.task_core.specs.declared.conditions.Cond.{Cond}

-- there are few stages, and each condition is such a one
pub record IsChainOver (fluents : ℕ) (chain : UntilChain) : Type 0 where
  pub few : length chain.stages.items ≤ most_stages
  pub each : EachInUntil (IsConditionOver fluents) chain

-- there is a visit, there are few, and each condition is such a one
pub record IsPatrolOver (fluents : ℕ) (visits : List Cond) : Type 0 where
  pub some : 1 ≤ length visits
  pub few : length visits ≤ most_visits
  pub each : All (IsConditionOver fluents) visits

-- a goal that a search takes
abbrev pub IsFairGoalOver : ℕ → ContextGoal → Type 0
IsFairGoalOver fluents (Until chain) = IsChainOver fluents chain
IsFairGoalOver fluents (Patrol visits) = IsPatrolOver fluents visits.items

-- how many contexts a plan for a goal has
abbrev pub contexts_of : ContextGoal → ℕ
contexts_of (Until chain) = length chain.stages.items + 1
contexts_of (Patrol visits) = length visits.items
