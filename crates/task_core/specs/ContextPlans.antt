-- Plans with contexts, and how they are executed (Pistore, Traverso, "Planning as model checking
-- for extended goals in non-deterministic domains", IJCAI 2001).
use Rattle.std.specs.Prelude.{◌≡◌, ℕ, ◌≤◌, List, Option, Some, None, IsSome}
use Rattle.std.specs.List.{Contains}
use Rattle.task_core.specs.Paths.{IsPath, last_of}
use Rattle.task_core.specs.Vectors.{Vector}
use Rattle.task_core.specs.Systems.{System, Exec, HasOutcome}

-- the action to take in a state and a context, and the context to go on in from a state and a
-- context when the action has led to a new state. Contexts are numbers
pub record ContextPlan : Type 0 where
  pub act : Vector → ℕ → Option ℕ
  pub ctxt : Vector → ℕ → Vector → Option ℕ

-- a plan that acts in finitely many contexts: all are below a bound
abbrev pub IsFinite : ContextPlan → Type 0
IsFinite plan = (bound : ℕ) × ((s : Vector) (c : ℕ) → bound ≤ c → plan.act s c ≡ None)

-- a state and the context that the plan is in
pub record Configuration : Type 0 where
  pub state : Vector
  pub context : ℕ

-- a plan begins in context 1
abbrev pub first_context : ℕ
first_context = 1

-- the configurations in which an execution may begin
pub record IsInitial (sys : System) (x : Configuration) : Type 0 where
  pub state : Contains sys.initial x.state
  pub context : x.context ≡ first_context

-- y follows x: the plan has an action at x, which can be executed there, and y has the state of an
-- outcome of it with the context that the plan goes on in. So the paths of the plan are those of
-- this relation
pub record Follows (sys : System) (plan : ContextPlan) (x y : Configuration) : Type 0 where
  pub action : ℕ
  pub acts : plan.act x.state x.context ≡ Some action
  pub outcome : HasOutcome sys x.state action y.state
  pub context : plan.ctxt x.state x.context y.state ≡ Some y.context

-- some path leads to x from an initial configuration
pub record IsReachable (sys : System) (plan : ContextPlan) (x : Configuration) : Type 0 where
  pub start : Configuration
  pub initial : IsInitial sys start
  pub rest : List Configuration
  pub path : IsPath (Follows sys plan) start rest
  pub ends : last_of start rest ≡ x

-- the plan goes on at x: it has an action, which can be executed there, and a next context for each
-- outcome
pub record GoesOn (sys : System) (plan : ContextPlan) (x : Configuration) : Type 0 where
  pub action : ℕ
  pub acts : plan.act x.state x.context ≡ Some action
  pub executable : Exec sys x.state action
  pub contexts : (t : Vector) → HasOutcome sys x.state action t
      → IsSome (plan.ctxt x.state x.context t)

-- the plan goes on at each configuration that it may reach
abbrev pub IsComplete : System → ContextPlan → Type 0
IsComplete sys plan = (x : Configuration) → IsReachable sys plan x → GoesOn sys plan x
