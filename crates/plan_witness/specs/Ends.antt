-- Configurations in which a plan ends, or from which it doesn't.
use Rattle.std.specs.Prelude.{◌≡◌, ℕ, false, true, List, [], None, Some, slice_get}
use Rattle.std.specs.List.{Contains}
use Rattle.task_core.specs.Cubes.{matches}
use Rattle.task_core.specs.Systems.{Exec, HasOutcome, System, goal_states}
use Rattle.task_core.specs.Vectors.{Vector}
use Rattle.task_core.specs.ContextPlans.{Configuration, IsInitial}
use Rattle.task_core.specs.Paths.{IsPath, last_of}
use Rattle.task_core.specs.declared.conditions.Cond.{Cond}
use Rattle.plan_rules.specs.Denoted.{next_context}
use Rattle.plan_rules.specs.Rules.{ContextRule, PlainPlan, PlanRule}
use Rattle.exec_graph.specs.Executions.{GoesTo}
use Rattle.exec_graph.specs.Values.{followers_at}
use Rattle.exec_graph.specs.declared.graphs.Graph.{Graph}
use Rattle.plan_check.specs.Plain.{is_goal_at}

-- the plan ends at x: no configuration follows
abbrev pub IsEnd : System → PlainPlan → Configuration → Type 0
IsEnd sys plan x = (y : Configuration) → GoesTo sys plan x y → ⊥

-- the plan ends at x, whose state is no goal state
pub record IsEndOutside (sys : System) (plan : PlainPlan) (x : Configuration) : Type 0 where
  pub end : IsEnd sys plan x
  pub outside : Contains (goal_states sys) x.state → ⊥

-- the plan ends at x, whose state is a goal state
pub record IsEndInside (sys : System) (plan : PlainPlan) (x : Configuration) : Type 0 where
  pub end : IsEnd sys plan x
  pub inside : Contains (goal_states sys) x.state

-- some path of the plan leads from x to a configuration with a property
pub record LeadsTo (sys : System) (plan : PlainPlan) (P : Configuration → Type 0)
    (x : Configuration) : Type 0 where
  pub rest : List Configuration
  pub path : IsPath (GoesTo sys plan) x rest
  pub ends : P (last_of x rest)

-- no path of the plan leads from x to an end
abbrev pub IsEndless : System → PlainPlan → Configuration → Type 0
IsEndless sys plan x = LeadsTo sys plan (IsEnd sys plan) x → ⊥

-- an execution may begin at x, and no path of the plan leads from it to an end in a goal state
pub record IsLostStart (sys : System) (plan : PlainPlan) (x : Configuration) : Type 0 where
  pub initial : IsInitial sys x
  pub misses : LeadsTo sys plan (IsEndInside sys plan) x → ⊥

-- Private: none follows number i, which is outside the goal
pub record IsNumberOutside (n : ℕ) (goal : Cond) (graph : Graph) (i : ℕ) : Type 0 where
  pub end : followers_at graph i ≡ []
  pub outside : is_goal_at n goal graph i ≡ false

-- the outcome of a number of the rule's action leads from s to a state for which the rule has no next
-- context
pub record IsLostAt (sys : System) (rule : ContextRule) (s : Vector) (outcome : ℕ) : Type 0 where
  pub after : Vector
  pub leads : sys.after s rule.action outcome ≡ Some after
  pub lost : next_context rule.next after ≡ None

-- the rule's action has an outcome in s for which the rule has no next context
pub record LosesOutcome (sys : System) (rule : ContextRule) (s : Vector) : Type 0 where
  pub after : Vector
  pub outcome : HasOutcome sys s rule.action after
  pub lost : next_context rule.next after ≡ None

-- the rule of a number matches s, and its action can't be executed there
pub record IsBadRuleAt (sys : System) (rules : List PlanRule) (s : Vector) (number : ℕ) : Type 0 where
  pub rule : PlanRule
  pub numbered : slice_get rules number ≡ Some rule
  pub matched : matches rule.cube s ≡ true
  pub refused : Exec sys s rule.action → ⊥
