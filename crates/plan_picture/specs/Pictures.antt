-- The picture of a plan: a node for each configuration that it may reach, that is a state with the
-- context that the plan is in, and an edge for each step that it may take there (the execution
-- structure of Pistore, Traverso 2001; for a table the states that its paths reach, as of Cimatti,
-- Pistore, Roveri, Traverso 2003).
use Rattle.std.specs.Prelude.{◌≡◌, ◌<◌, ◌⊎◌, ◌↔◌, ℕ, Bool, IsTrue, true, List, Option, Some, map, slice_get}
use Rattle.std.specs.List.{AllPairs, Contains}
use Rattle.task_core.specs.Vectors.{Vector}
use Rattle.task_core.specs.Systems.{System, goal_states}
use Rattle.task_core.specs.ContextPlans.{Configuration, IsInitial, first_context}
use Rattle.plan_rules.specs.Denoted.{advises, denoted_contexts}
use Rattle.plan_rules.specs.Rules.{PlainPlan, table, automaton}
use Rattle.exec_graph.specs.Executions.{IsReachedBy}
use Rattle.exec_graph.specs.Orders.{AreInOrderMet, in_first}

-- a step: the number of the action, that of its outcome, and the place of the node to which it leads
pub record PlainStep : Type 0 where
  pub action : ℕ
  pub outcome : ℕ
  pub target : ℕ

-- a node: its configuration, whether an execution may begin there, whether it is in a goal state,
-- and the steps from there
pub record PlainNode : Type 0 where
  pub configuration : Configuration
  pub initial : Bool
  pub goal : Bool
  pub steps : List PlainStep

-- the configurations of nodes
abbrev pub configurations : List PlainNode → List Configuration
configurations = map (λ (node : PlainNode). node.configuration)

-- the plan has the action at x: in a table some rule that matches the state has it, in an automaton
-- the first rule of the context that matches
abbrev pub HasAction : PlainPlan → Configuration → ℕ → Type 0
HasAction (table class rules) x a = advises rules x.state a ≡ true
HasAction (automaton contexts rules) x a =
    (denoted_contexts rules).act x.state x.context ≡ Some a

-- the context in which the plan goes on from x in the new state t; a table keeps the first one
abbrev pub context_after : PlainPlan → Configuration → Vector → Option ℕ
context_after (table class rules) x t = Some first_context
context_after (automaton contexts rules) x t = (denoted_contexts rules).ctxt x.state x.context t

-- the plan may step from x to y: it has the action at x, and its outcome of this number, counted
-- among all of them, leads to y
pub record Steps (sys : System) (plan : PlainPlan) (x : Configuration) (action outcome : ℕ)
    (y : Configuration) : Type 0 where
  pub has : HasAction plan x action
  pub leads : sys.after x.state action outcome ≡ Some y.state
  pub context : context_after plan x y.state ≡ Some y.context

-- the step leads from x to the node at its place, among nodes with these configurations
pub record IsStepFrom (sys : System) (plan : PlainPlan) (places : List Configuration)
    (x : Configuration) (step : PlainStep) : Type 0 where
  pub target : Configuration
  pub place : slice_get places step.target ≡ Some target
  pub steps : Steps sys plan x step.action step.outcome target

-- the first step comes before the second: its action has a lower number, or its outcome of the same
-- action has
abbrev pub IsBefore : PlainStep → PlainStep → Type 0
IsBefore a b = (a.action < b.action) ⊎ ((a.action ≡ b.action) × (a.outcome < b.outcome))

-- a node shows its configuration: whether it is initial, whether it is in a goal state, and exactly
-- the steps from there, in the order of actions and outcomes
pub record IsNode (sys : System) (plan : PlainPlan) (places : List Configuration)
    (node : PlainNode) : Type 0 where
  pub initial : IsTrue node.initial ↔ IsInitial sys node.configuration
  pub goal : IsTrue node.goal ↔ Contains (goal_states sys) node.configuration.state
  pub steps : (step : PlainStep)
      → Contains node.steps step ↔ IsStepFrom sys plan places node.configuration step
  pub ordered : AllPairs IsBefore node.steps

-- the nodes are the picture of a plan
pub record IsPictureOf (sys : System) (plan : PlainPlan) (nodes : List PlainNode) : Type 0 where
  -- they have exactly the configurations that the plan may reach, each once
  pub reached : (x : Configuration)
      → Contains (configurations nodes) x ↔ IsReachedBy sys plan x
  pub once : (i j : ℕ) (x : Configuration) → slice_get (configurations nodes) i ≡ Some x
      → slice_get (configurations nodes) j ≡ Some x → i ≡ j
  -- in the order in which they are met: those of the initial states come first, in their order, and
  -- then from each node in its turn those to which its plan goes on
  pub in_order : AreInOrderMet sys plan (configurations nodes)
  pub begun : (i : ℕ) (s : Vector) → slice_get sys.initial i ≡ Some s
      → slice_get (configurations nodes) i ≡ Some (in_first s)
  pub each : (node : PlainNode) → Contains nodes node
      → IsNode sys plan (configurations nodes) node
