-- The plain trees of a `ContextGoal`, and those of the conditions of an until-chain or a patrol goal.
use Rattle.std.specs.Prelude.{◌≡◌, ◌↔◌, ◌≤◌, ℕ, Bool, true, List, [], map, Option, All}
use Rattle.std.specs.Option.{option_map_or}
use Rattle.task_core.specs.Conditions.{depth, ids_below}
use Rattle.task_core.specs.ContextPlans.{Configuration, ContextPlan, Follows}
use Rattle.task_core.specs.Systems.{System}
use Rattle.task_core.specs.Vectors.{Vector}
use Rattle.task_core.specs.declared.conditions.Cond.{Cond}
use Rattle.ctl_syntax.specs.Conditions.{CondTree, all_conditions, condition_value, states_of}
use Rattle.ctl_syntax.specs.ContextGoals.{PlainGoal, plain_until, plain_patrol}
use Rattle.ctl_syntax.specs.Goals.{CtlTree}
use Rattle.ctl_syntax.specs.Patrols.{patrol_tree}
use Rattle.ctl_syntax.specs.Truth.{Satisfies}
use Rattle.ctl_syntax.specs.UntilChains.{GuardedStage, PlainStage, PlainUntil, until_tree}
use Rattle.ctl_syntax.specs.declared.context_goals.ContextGoal.{ContextGoal}
use Rattle.ctl_syntax.specs.declared.context_goals.ContextGoal.TheVariants.{Until, Patrol}
use Rattle.ctl_syntax.specs.declared.context_goals.UntilChain.{UntilChain}
use Rattle.ctl_syntax.specs.declared.context_goals.UntilStage.{UntilStage}

-- two conditions a stage, and the condition that is kept
pub record UntilTree : Type 0 where
  pub stages : List (GuardedStage CondTree)
  pub keep : CondTree

-- an until-chain, or the conditions of a patrol goal
pub data GoalTree : Type 0 where
  until_chain : UntilTree → GoalTree
  patrol_goal : List CondTree → GoalTree

abbrev pub stage_value : UntilStage → GuardedStage CondTree
stage_value stage = record {
  guard = condition_value stage.guard;
  target = condition_value stage.target;
}

abbrev pub until_value : UntilChain → UntilTree
until_value chain = record {
  stages = map stage_value chain.stages.items;
  keep = condition_value chain.keep;
}

abbrev pub tree_of_goal : ContextGoal → GoalTree
tree_of_goal (Until chain) = until_chain (until_value chain)
tree_of_goal (Patrol conds) = patrol_goal (map condition_value conds.items)

-- a condition that need not be there: where there is none, the conjunction of none
abbrev pub condition_or_true : Option Cond → CondTree
condition_or_true cond = option_map_or condition_value cond (all_conditions [])

-- the conditions of a stage: its target is the conjunction of those that it asks for at once, its
-- guard the condition that holds until then
abbrev pub stage_conditions : PlainStage Cond → GuardedStage CondTree
stage_conditions stage = record {
  guard = condition_or_true stage.guard;
  target = all_conditions stage.targets;
}

-- the conditions of an until-chain
abbrev pub until_conditions : PlainUntil Cond → UntilTree
until_conditions chain = record {
  stages = map stage_conditions chain.stages;
  keep = condition_or_true chain.keep;
}

-- the conditions of an until-chain or a patrol goal
abbrev pub goal_conditions : PlainGoal Cond → GoalTree
goal_conditions (plain_until chain) = until_chain (until_conditions chain)
goal_conditions (plain_patrol conds) = patrol_goal (map condition_value conds)

-- each condition of a stage has the property
pub record EachInStage (Q : Cond → Type 0) (stage : UntilStage) : Type 0 where
  pub guard : Q stage.guard
  pub target : Q stage.target

-- each condition of an until-chain has it
pub record EachInUntil (Q : Cond → Type 0) (chain : UntilChain) : Type 0 where
  pub stages : All (EachInStage Q) chain.stages.items
  pub keep : Q chain.keep

-- each condition of an until-chain or a patrol goal has it
abbrev pub EachInGoal : (Cond → Type 0) → ContextGoal → Type 0
EachInGoal Q (Until chain) = EachInUntil Q chain
EachInGoal Q (Patrol conds) = All Q conds.items

-- each of them names fluents below n alone
abbrev pub GoalNamesBelow : ℕ → ContextGoal → Type 0
GoalNamesBelow n found = EachInGoal (λ (cond : Cond). ids_below n cond ≡ true) found

-- each of them is at most n deep
abbrev pub GoalIsAtMostDeep : ℕ → ContextGoal → Type 0
GoalIsAtMostDeep n found = EachInGoal (λ (cond : Cond). depth cond ≤ n) found

-- the states of a stage: those in which its guard holds, and those in which its target does
abbrev pub stage_sets : UntilStage → GuardedStage (Vector → Bool)
stage_sets stage = record { guard = states_of stage.guard; target = states_of stage.target }

-- the goal of the sets of states of an until-chain or a patrol goal
abbrev pub goal_tree : ContextGoal → CtlTree (Vector → Bool)
goal_tree (Until chain) = until_tree (map stage_sets chain.stages.items) (states_of chain.keep)
goal_tree (Patrol conds) = patrol_tree (map states_of conds.items)

-- the goal, and the goal of those sets, are true at the same configurations, whatever the plan
abbrev pub IsTrueAlike : CtlTree Cond → ContextGoal → Type 0
IsTrueAlike goal found =
    (sys : System) (plan : ContextPlan) (x : Configuration)
    → Satisfies (Follows sys plan) (λ (cond : Cond) (y : Configuration).
    states_of cond y.state ≡ true) goal x
    ↔ Satisfies (Follows sys plan) (λ (set : Vector → Bool) (y : Configuration).
    set y.state ≡ true)
    (goal_tree found) x
