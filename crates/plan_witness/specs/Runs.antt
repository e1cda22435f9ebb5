-- Runs of a plan from a configuration, step by step. A configuration is a state with the context that
-- the plan is in; a table keeps the first context.
use Rattle.std.specs.Prelude.{◌≡◌, ◌<◌, ◌≤◌, ◌==◌, ◌&&◌, ℕ, Bool, true, false, List, [], ◌∷◌}
use Rattle.std.specs.Prelude.{Some, length, slice_get, ⊤}
use Rattle.task_core.specs.Systems.{System}
use Rattle.task_core.specs.ContextPlans.{Configuration, IsInitial, first_context}
use Rattle.task_core.specs.Paths.{IsPath, last_of}
use Rattle.task_core.specs.Cubes.{matches}
use Rattle.plan_rules.specs.Rules.{ContextRule, PlainPlan, PlanRule, automaton, table}
use Rattle.plan_rules.specs.Denoted.{next_context}
use Rattle.exec_graph.specs.Executions.{GoesTo, IsReachedBy}

-- a step: the number of the rule in the plan's text, the action, the number of the outcome among all
-- outcomes of the action, all counted from 0, and the configuration to which it leads
pub record PlainStep : Type 0 where
  pub rule : ℕ
  pub action : ℕ
  pub outcome : ℕ
  pub after : Configuration

-- the outcome of this number leads from the state of x to that of the step
pub record IsByOutcome (sys : System) (x : Configuration) (step : PlainStep) : Type 0 where
  pub below : step.outcome < sys.outcomes step.action
  pub leads : sys.after x.state step.action step.outcome ≡ Some step.after.state

-- the rules of a table allow the step at x: the rule of this number matches the state and has this
-- action
pub record IsTableStep (sys : System) (rules : List PlanRule) (x : Configuration)
    (step : PlainStep) : Type 0 where
  pub rule : PlanRule
  pub numbered : slice_get rules step.rule ≡ Some rule
  pub matched : matches rule.cube x.state ≡ true
  pub acts : rule.action ≡ step.action
  pub outcome : IsByOutcome sys x step
  pub stays : step.after.context ≡ first_context

-- whether a rule of an automaton is one of the context of x that matches the state of x
abbrev pub is_for : Configuration → ContextRule → Bool
is_for x rule = (rule.context == x.context) && matches rule.cube x.state

-- the rule of this number counts at x: it is the first that is for x
pub record IsCounting (rules : List ContextRule) (x : Configuration) (number : ℕ)
    (rule : ContextRule) : Type 0 where
  pub numbered : slice_get rules number ≡ Some rule
  pub is : is_for x rule ≡ true
  pub first : (k : ℕ) (other : ContextRule) → k < number → slice_get rules k ≡ Some other
      → is_for x other ≡ false

-- the rules of an automaton allow the step at x: the rule of this number counts, has this action, and
-- goes on in the context of the step
pub record IsContextStep (sys : System) (rules : List ContextRule) (x : Configuration)
    (step : PlainStep) : Type 0 where
  pub rule : ContextRule
  pub counts : IsCounting rules x step.rule rule
  pub acts : rule.action ≡ step.action
  pub outcome : IsByOutcome sys x step
  pub onward : next_context rule.next step.after.state ≡ Some step.after.context

-- the plan allows the step at x
abbrev pub IsStepOf : System → PlainPlan → Configuration → PlainStep → Type 0
IsStepOf sys (table class rules) x step = IsTableStep sys rules x step
IsStepOf sys (automaton contexts rules) x step = IsContextStep sys rules x step

-- the steps are a run of the plan from x: each is allowed where the one before has led
abbrev pub IsRunOf : System → PlainPlan → Configuration → List PlainStep → Type 0
IsRunOf sys plan x [] = ⊤
IsRunOf sys plan x (step ∷ steps) = IsStepOf sys plan x step × IsRunOf sys plan step.after steps

-- the configuration in which a run from x ends
abbrev pub end_of : Configuration → List PlainStep → Configuration
end_of x [] = x
end_of x (step ∷ steps) = end_of step.after steps

-- a run with the configuration in which it begins
pub record PlainRun : Type 0 where
  pub start : Configuration
  pub steps : List PlainStep

-- a run from an initial state to a configuration with a property, to which no path of the plan from
-- an initial state is shorter
pub record IsShortestRun (sys : System) (plan : PlainPlan) (P : Configuration → Type 0)
    (run : PlainRun) : Type 0 where
  pub initial : IsInitial sys run.start
  pub run_of : IsRunOf sys plan run.start run.steps
  pub shows : P (end_of run.start run.steps)
  pub shortest : (start : Configuration) (rest : List Configuration) → IsInitial sys start
      → IsPath (GoesTo sys plan) start rest
      → P (last_of start rest)
      → length run.steps ≤ length rest

-- the plan may reach no configuration with a property
abbrev pub NoneReached : System → PlainPlan → (Configuration → Type 0) → Type 0
NoneReached sys plan P = (x : Configuration) → IsReachedBy sys plan x → P x → ⊥
