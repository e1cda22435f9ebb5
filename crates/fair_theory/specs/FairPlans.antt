-- Plans for goals whose actions may be tried again.
use Rattle.std.specs.Prelude.{◌≡◌, ◌↔◌, map, true}
use Rattle.ctl_syntax.specs.Conditions.{states_of}
use Rattle.ctl_syntax.specs.GoalValues.{stage_sets}
use Rattle.ctl_syntax.specs.Goals.{CtlTree}
use Rattle.ctl_syntax.specs.Truth.{Satisfies}
use Rattle.ctl_syntax.specs.declared.context_goals.ContextGoal.{ContextGoal}
use Rattle.ctl_syntax.specs.declared.context_goals.ContextGoal.TheVariants.{Until, Patrol}
use Rattle.task_core.specs.ContextPlans.{Configuration, ContextPlan, Follows, IsComplete, IsInitial}
use Rattle.task_core.specs.Cubes.{SetOfVectors}
use Rattle.task_core.specs.Systems.{System}
use Rattle.task_core.specs.declared.conditions.Cond.{Cond}
use Rattle.plan_theory.specs.UntilChains.{StateIsIn}
use Rattle.fair_theory.specs.FairGoals.{fair_chain, fair_patrol}
use Rattle.fair_theory.specs.FairSets.{SetGoal, chain_goal, patrol_goal}

-- the goal by which a plan is judged, over sets of states
abbrev pub fair_sets_tree : SetGoal → CtlTree SetOfVectors
fair_sets_tree (chain_goal chain) = fair_chain chain.stages chain.keep
fair_sets_tree (patrol_goal visits) = fair_patrol visits

-- that goal is true at a configuration, along the paths of the plan
abbrev pub HasFairly : System → ContextPlan → SetGoal → Configuration → Type 0
HasFairly sys plan goal = Satisfies (Follows sys plan) StateIsIn (fair_sets_tree goal)

-- the plan goes on at each configuration that it may reach, and each initial one has the goal
pub record IsFairPlan (sys : System) (goal : SetGoal) (plan : ContextPlan) : Type 0 where
  pub complete : IsComplete sys plan
  pub has : (x : Configuration) → IsInitial sys x → HasFairly sys plan goal x

-- the sets of states of an until-chain or a patrol goal
abbrev pub sets_of_goal : ContextGoal → SetGoal
sets_of_goal (Until chain) = chain_goal (record {
  stages = map stage_sets chain.stages.items;
  keep = states_of chain.keep;
})
sets_of_goal (Patrol visits) = patrol_goal (map states_of visits.items)

-- a goal over conditions is true where the goal by which a plan is judged is, over their sets of states
abbrev pub IsTrueFairly : CtlTree Cond → ContextGoal → Type 0
IsTrueFairly made found =
    (sys : System) (plan : ContextPlan) (x : Configuration)
    → Satisfies (Follows sys plan) (λ (cond : Cond) (y : Configuration).
    states_of cond y.state ≡ true) made x
    ↔ HasFairly sys plan (sets_of_goal found) x

-- no plan with contexts is one, whatever its contexts are and however many
abbrev pub HasNoFairPlan : System → SetGoal → Type 0
HasNoFairPlan sys goal = (plan : ContextPlan) → IsFairPlan sys goal plan → ⊥
