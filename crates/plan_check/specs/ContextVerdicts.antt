-- What a verdict on a plan with contexts says, for a goal in computation tree logic (Pistore,
-- Traverso 2001). It speaks of the context plan and of its paths, and of no graph. A goal counts as
-- the property of the configurations at which it is true.
use Rattle.std.specs.Prelude.{◌≡◌, ◌⊎◌, ◌<◌, ℕ, true, IsSome, Option, Some, None, ⊤}
use Rattle.task_core.specs.Conditions.{holds}
use Rattle.task_core.specs.ContextPlans.{Configuration, ContextPlan, Follows, IsComplete, IsInitial}
use Rattle.task_core.specs.ContextPlans.{IsReachable}
use Rattle.task_core.specs.Systems.{System, Exec, HasOutcome}
use Rattle.task_core.specs.Vectors.{Vector, value_of}
use Rattle.task_core.specs.declared.conditions.Cond.{Cond}
use Rattle.ctl_syntax.specs.Goals.{CtlTree}
use Rattle.ctl_syntax.specs.Truth.{Satisfies}
use Rattle.exec_graph.specs.Executions.{HasBadAction, HasLostOutcome}
use Rattle.plan_check.specs.Verdicts.{turn_of}
use Rattle.plan_check.specs.declared.verdicts.Reason.{Reason}
use Rattle.plan_check.specs.declared.verdicts.Reason.TheVariants.{Unexecutable, Stuck, Terminal}
use Rattle.plan_check.specs.declared.verdicts.Reason.TheVariants.{Cycle, Unreachable, Formula}
use Rattle.plan_check.specs.declared.verdicts.Verdict.{Verdict}
use Rattle.plan_check.specs.declared.verdicts.Verdict.TheVariants.{Yes, No}

-- a condition holds in the state of a configuration
abbrev pub HoldsAt : Cond → Configuration → Type 0
HoldsAt cond x = holds cond (value_of x.state) ≡ true

-- a goal is true at a configuration, along the paths of the plan
abbrev pub IsTrueAt : System → ContextPlan → CtlTree Cond → Configuration → Type 0
IsTrueAt sys plan goal = Satisfies (Follows sys plan) HoldsAt goal

-- the plan meets the goal: it is complete, and each initial configuration has the goal
pub record MeetsGoal (sys : System) (plan : ContextPlan)
    (Goal : Configuration → Type 0) : Type 0 where
  pub complete : IsComplete sys plan
  pub has : (x : Configuration) → IsInitial sys x → Goal x

-- at some configuration that the plan may reach its action can't be executed
pub record MayNotExecute (sys : System) (plan : ContextPlan) : Type 0 where
  pub place : Configuration
  pub reached : IsReachable sys plan place
  pub refused : HasBadAction sys plan place

-- at each that it may reach its action can be executed
abbrev pub ExecutesAlways : System → ContextPlan → Type 0
ExecutesAlways sys plan = (x : Configuration) (a : ℕ) → IsReachable sys plan x
    → plan.act x.state x.context ≡ Some a → Exec sys x.state a

-- at some configuration that the plan may reach it has no action, or no next context for an outcome
pub record MayGetStuck (sys : System) (plan : ContextPlan) : Type 0 where
  pub place : Configuration
  pub reached : IsReachable sys plan place
  pub stuck : (plan.act place.state place.context ≡ None) ⊎ HasLostOutcome sys plan place

-- at each that it may reach it has an action, and a next context for each outcome
pub record NeverStuck (sys : System) (plan : ContextPlan) : Type 0 where
  pub acts : (x : Configuration) → IsReachable sys plan x → IsSome (plan.act x.state x.context)
  pub contexts : (x : Configuration) (a : ℕ) (t : Vector) → IsReachable sys plan x
      → plan.act x.state x.context ≡ Some a → HasOutcome sys x.state a t
      → IsSome (plan.ctxt x.state x.context t)

-- some initial configuration hasn't the goal
pub record MayMissFormula (sys : System) (Goal : Configuration → Type 0) : Type 0 where
  pub start : Configuration
  pub initial : IsInitial sys start
  pub misses : Goal start → ⊥

-- the reason speaks against the plan. A plan with contexts is only asked whether it is complete and
-- has the goal.
abbrev pub HasContextReason : System → ContextPlan → (Configuration → Type 0) → Reason → Type 0
HasContextReason sys plan Goal Unexecutable = MayNotExecute sys plan
HasContextReason sys plan Goal Stuck = MayGetStuck sys plan
HasContextReason sys plan Goal Terminal = ⊥
HasContextReason sys plan Goal Cycle = ⊥
HasContextReason sys plan Goal Unreachable = ⊥
HasContextReason sys plan Goal Formula = MayMissFormula sys Goal

-- the reason doesn't speak against it: its opposite
abbrev pub IsFreeOfContextReason : System → ContextPlan → (Configuration → Type 0) → Reason → Type 0
IsFreeOfContextReason sys plan Goal Unexecutable = ExecutesAlways sys plan
IsFreeOfContextReason sys plan Goal Stuck = NeverStuck sys plan
IsFreeOfContextReason sys plan Goal Terminal = ⊤
IsFreeOfContextReason sys plan Goal Cycle = ⊤
IsFreeOfContextReason sys plan Goal Unreachable = ⊤
IsFreeOfContextReason sys plan Goal Formula = (x : Configuration) → IsInitial sys x → Goal x

-- the reason speaks against the plan, and none that is tried before it does
pub record IsFirstContextReason (sys : System) (plan : ContextPlan) (Goal : Configuration → Type 0)
    (reason : Reason) : Type 0 where
  pub has : HasContextReason sys plan Goal reason
  pub first : (earlier : Reason) → turn_of earlier < turn_of reason
      → IsFreeOfContextReason sys plan Goal earlier

-- a yes: no reason speaks against the plan; there is no bound
pub record IsContextYes (sys : System) (plan : ContextPlan) (Goal : Configuration → Type 0)
    (bound : Option ℕ) : Type 0 where
  pub free : (reason : Reason) → IsFreeOfContextReason sys plan Goal reason
  pub unbounded : bound ≡ None

-- the verdict on a plan with contexts: the first reason that speaks against it, else yes
abbrev pub IsContextVerdict : System → ContextPlan → (Configuration → Type 0) → Verdict → Type 0
IsContextVerdict sys plan Goal (Yes bound) = IsContextYes sys plan Goal bound
IsContextVerdict sys plan Goal (No reason) = IsFirstContextReason sys plan Goal reason
