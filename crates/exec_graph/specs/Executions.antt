-- What a plan does, one configuration at a time. A configuration is a state with the context that
-- the plan is in. An automaton is executed as its context plan is (Pistore, Traverso 2001). A table
-- knows no contexts (Cimatti, Pistore, Roveri, Traverso 2003): its executions go along the paths of
-- the table that it denotes, all in the first context.
use Rattle.std.specs.Prelude.{◌≡◌, ◌≢◌, ◌⊎◌, ◌<◌, ℕ, true, List, length, Some, None}
use Rattle.std.specs.List.{All, AllPairs, Contains}
use Rattle.task_core.specs.Vectors.{Vector}
use Rattle.task_core.specs.Systems.{System, Exec, HasOutcome}
use Rattle.task_core.specs.Tables.{Leads}
use Rattle.task_core.specs.Solutions.{IsReached}
use Rattle.task_core.specs.ContextPlans.{Configuration, ContextPlan, Follows, IsReachable}
use Rattle.task_core.specs.ContextPlans.{first_context}
use Rattle.task_core.specs.Cubes.{matches}
use Rattle.plan_rules.specs.Denoted.{denoted, denoted_contexts}
use Rattle.plan_rules.specs.Rules.{PlanRule, PlainPlan, table, automaton}

-- y follows x. In a table every pair of the state counts, and the first context is kept.
abbrev pub GoesTo : System → PlainPlan → Configuration → Configuration → Type 0
GoesTo sys (table class rules) x y =
    Leads sys (denoted sys rules) x.state y.state × (y.context ≡ first_context)
GoesTo sys (automaton contexts rules) x y = Follows sys (denoted_contexts rules) x y

-- some execution leads to x from an initial state in the first context
abbrev pub IsReachedBy : System → PlainPlan → Configuration → Type 0
IsReachedBy sys (table class rules) x =
    IsReached sys (denoted sys rules) x.state × (x.context ≡ first_context)
IsReachedBy sys (automaton contexts rules) x = IsReachable sys (denoted_contexts rules) x

-- some rule of a table that matches the state has an action that can't be executed there
pub record HasBadRule (sys : System) (rules : List PlanRule) (s : Vector) : Type 0 where
  pub rule : PlanRule
  pub listed : Contains rules rule
  pub matched : matches rule.cube s ≡ true
  pub refused : Exec sys s rule.action → ⊥

-- the context plan has an action at x that can't be executed there
pub record HasBadAction (sys : System) (plan : ContextPlan) (x : Configuration) : Type 0 where
  pub action : ℕ
  pub acts : plan.act x.state x.context ≡ Some action
  pub refused : Exec sys x.state action → ⊥

-- a rule that counts at x has an action that can't be executed there: in a table every rule that
-- matches counts, in an automaton the first of the context
abbrev pub IsUnexecutableAt : System → PlainPlan → Configuration → Type 0
IsUnexecutableAt sys (table class rules) x = HasBadRule sys rules x.state
IsUnexecutableAt sys (automaton contexts rules) x = HasBadAction sys (denoted_contexts rules) x

-- the context plan has an action at x with an outcome for which it has no next context
pub record HasLostOutcome (sys : System) (plan : ContextPlan) (x : Configuration) : Type 0 where
  pub action : ℕ
  pub acts : plan.act x.state x.context ≡ Some action
  pub after : Vector
  pub outcome : HasOutcome sys x.state action after
  pub lost : plan.ctxt x.state x.context after ≡ None

-- the plan doesn't go on at x: it has no rule there, or no next context for an outcome. A table is
-- never stuck: a state without a rule is terminal.
abbrev pub IsStuckAt : System → PlainPlan → Configuration → Type 0
IsStuckAt sys (table class rules) x = ⊥
IsStuckAt sys (automaton contexts rules) x =
    ((denoted_contexts rules).act x.state x.context ≡ None)
    ⊎ HasLostOutcome sys (denoted_contexts rules) x

-- some configuration that the plan may reach has a rule that counts there and can't be followed
pub record MayBeUnexecutable (sys : System) (plan : PlainPlan) : Type 0 where
  pub place : Configuration
  pub reached : IsReachedBy sys plan place
  pub unexecutable : IsUnexecutableAt sys plan place

-- in some configuration that the plan may reach it doesn't go on
pub record MayBeStuck (sys : System) (plan : PlainPlan) : Type 0 where
  pub place : Configuration
  pub reached : IsReachedBy sys plan place
  pub stuck : IsStuckAt sys plan place

-- the plan may reach more than so many configurations: there is a list of so many different ones
pub record ReachesMoreThan (sys : System) (plan : PlainPlan) (limit : ℕ) : Type 0 where
  pub places : List Configuration
  pub different : AllPairs (λ x y. x ≢ y) places
  pub reached : All (IsReachedBy sys plan) places
  pub more : limit < length places
