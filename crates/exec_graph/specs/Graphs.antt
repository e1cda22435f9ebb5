-- The graph of a plan: which configurations it may reach, and which follow which.
use Rattle.std.specs.Prelude.{◌≡◌, ◌≢◌, ◌<◌, ◌↔◌, ℕ, Bool, IsTrue, List, map}
use Rattle.std.specs.List.{AllPairs, Contains, range_with_len}
use Rattle.task_core.specs.Systems.{System}
use Rattle.task_core.specs.ContextPlans.{Configuration, IsInitial}
use Rattle.plan_rules.specs.Rules.{PlainPlan}
use Rattle.exec_graph.specs.Executions.{GoesTo, IsReachedBy, MayBeStuck, MayBeUnexecutable}
use Rattle.exec_graph.specs.Orders.{AreInOrderMet}

-- a graph as plain data. Its nodes are the numbers below `size`: each has a configuration, a mark
-- whether an execution may begin there, the list of the numbers that follow it and the list of
-- those that it follows. Two marks are of the whole graph.
pub record PlainGraph : Type 0 where
  pub size : ℕ
  pub configuration : ℕ → Configuration
  pub initial : ℕ → Bool
  pub next : ℕ → List ℕ
  pub prev : ℕ → List ℕ
  pub unexecutable : Bool
  pub stuck : Bool

-- x is the configuration of a number
pub record HasNode (graph : PlainGraph) (x : Configuration) : Type 0 where
  pub number : ℕ
  pub below : number < graph.size
  pub is : graph.configuration number ≡ x

-- the graph is that of the plan in the system
pub record IsGraphOf (sys : System) (plan : PlainPlan) (graph : PlainGraph) : Type 0 where
  -- its configurations are exactly those that the plan may reach, each once
  pub reached : (i : ℕ) → i < graph.size → IsReachedBy sys plan (graph.configuration i)
  pub listed : (x : Configuration) → IsReachedBy sys plan x → HasNode graph x
  pub once : (i j : ℕ) → i < graph.size → j < graph.size
      → graph.configuration i ≡ graph.configuration j → i ≡ j
  -- they are numbered in the order in which they are met
  pub in_order : AreInOrderMet sys plan (map graph.configuration (range_with_len 0 graph.size))
  -- those in which an execution may begin are marked
  pub initial : (i : ℕ) → i < graph.size
      → IsTrue (graph.initial i) ↔ IsInitial sys (graph.configuration i)
  -- after each come exactly those that follow it, each once
  pub next_below : (i j : ℕ) → i < graph.size → Contains (graph.next i) j → j < graph.size
  pub next : (i j : ℕ) → i < graph.size → j < graph.size
      → Contains (graph.next i) j ↔ GoesTo sys plan (graph.configuration i) (graph.configuration j)
  pub next_once : (i : ℕ) → i < graph.size → AllPairs (λ j k. j ≢ k) (graph.next i)
  -- before each come exactly those that it follows, each once
  pub prev : (i j : ℕ) → j < graph.size
      → Contains (graph.prev j) i ↔ (i < graph.size) × Contains (graph.next i) j
  pub prev_once : (j : ℕ) → j < graph.size → AllPairs (λ i k. i ≢ k) (graph.prev j)
  -- whether some rule counts where it can't be followed, and whether the plan may get stuck
  pub unexecutable : IsTrue graph.unexecutable ↔ MayBeUnexecutable sys plan
  pub stuck : IsTrue graph.stuck ↔ MayBeStuck sys plan
