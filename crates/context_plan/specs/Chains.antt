-- Until-chains and patrol goals of conditions: the sets of states that they speak of, and which ones
-- a search takes.
use Rattle.std.specs.Prelude.{◌≡◌, ℕ, ◌≤◌, true, All, List, map, length}
use Rattle.plan_theory.specs.UntilChains.{UntilSets}
use Rattle.ctl_syntax.specs.Conditions.{states_of}
use Rattle.ctl_syntax.specs.GoalSizes.{most_stages, most_visits}
use Rattle.ctl_syntax.specs.GoalValues.{EachInUntil, stage_sets}
use Rattle.ctl_syntax.specs.declared.context_goals.UntilChain.{UntilChain}
use Rattle.task_core.specs.Conditions.{ids_below, is_shallow}
use Rattle.task_core.specs.Cubes.{SetOfVectors}
use Rattle.task_core.specs.declared.conditions.Cond.{Cond}

-- the sets of states of an until-chain
abbrev pub until_sets : UntilChain → UntilSets
until_sets chain = record {
  stages = map stage_sets chain.stages.items;
  keep = states_of chain.keep;
}

-- those of a patrol goal
abbrev pub visit_sets : List Cond → List SetOfVectors
visit_sets conds = map states_of conds

-- there are few stages, and each condition names the first fluents alone and is at most 200 deep
pub record IsUntilOver (fluents : ℕ) (chain : UntilChain) : Type 0 where
  pub few : length chain.stages.items ≤ most_stages
  pub names : EachInUntil (λ (cond : Cond). ids_below fluents cond ≡ true) chain
  pub shallow : EachInUntil (λ (cond : Cond). is_shallow cond ≡ true) chain

-- there is a visit, there are few, and each condition is such a one
pub record IsPatrolOver (fluents : ℕ) (conds : List Cond) : Type 0 where
  pub some : 1 ≤ length conds
  pub few : length conds ≤ most_visits
  pub names : All (λ (cond : Cond). ids_below fluents cond ≡ true) conds
  pub shallow : All (λ (cond : Cond). is_shallow cond ≡ true) conds
