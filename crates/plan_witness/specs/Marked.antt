-- Private: what the functions on a graph speak of.
use Rattle.std.specs.Prelude.{◌≡◌, ◌<◌, ℕ, Bool, List, ◌∷◌, map}
use Rattle.task_core.specs.Systems.{System}
use Rattle.task_core.specs.ContextPlans.{Configuration}
use Rattle.task_core.specs.Tasks.{fluent_count, system_of}
use Rattle.task_core.specs.declared.tasks.Task.{Task}
use Rattle.plan_rules.specs.Rules.{PlainPlan, plain_of}
use Rattle.plan_rules.specs.declared.rules.Plan.{Plan}
use Rattle.exec_graph.specs.Graphs.{IsGraphOf}
use Rattle.exec_graph.specs.Values.{graph_size, plain_graph}
use Rattle.exec_graph.specs.declared.graphs.Graph.{Graph}
use Rattle.plan_check.specs.Walks.{IsMarked}
use Rattle.plan_witness.specs.Runs.{IsRunOf, IsStepOf, PlainStep}
use Rattle.plan_witness.specs.Ways.{IsShortestRoundAt}

-- the graph is that of the plan in the task
abbrev pub IsGraphIn : Task → Plan → Graph → Type 0
IsGraphIn task plan graph =
    IsGraphOf (system_of task) (plain_of plan) (plain_graph (fluent_count task) graph)

-- Private: the configuration of a number, over n fluents
abbrev pub place_at : ℕ → Graph → ℕ → Configuration
place_at n graph i = (plain_graph n graph).configuration i

-- Private: the configuration of a number with a mark
pub record IsMarkedPlace (n : ℕ) (graph : Graph) (marks : List Bool) (x : Configuration) : Type 0 where
  pub number : ℕ
  pub below : number < graph_size graph
  pub marked : IsMarked marks number
  pub place : place_at n graph number ≡ x

-- Private: the steps are a run along the way from a number to the others
pub record IsRunAlong (sys : System) (plan : PlainPlan) (place : ℕ → Configuration) (start : ℕ)
    (numbers : List ℕ) (steps : List PlainStep) : Type 0 where
  pub run_of : IsRunOf sys plan (place start) steps
  pub places : map (λ (step : PlainStep). step.after) steps ≡ map place numbers

-- Private: the steps are a run from the number i by its follower `start` along the way to the others
pub record IsRoundAlong (sys : System) (plan : PlainPlan) (place : ℕ → Configuration) (i start : ℕ)
    (numbers : List ℕ) (steps : List PlainStep) : Type 0 where
  pub first : PlainStep
  pub others : List PlainStep
  pub is : steps ≡ first ∷ others
  pub step : IsStepOf sys plan (place i) first
  pub after : first.after ≡ place start
  pub along : IsRunAlong sys plan place start numbers others

-- Private: the steps are a shortest run from the number i back to it
pub record IsRoundOf (sys : System) (plan : PlainPlan) (place : ℕ → Configuration) (next : ℕ → List ℕ)
    (i : ℕ) (steps : List PlainStep) : Type 0 where
  pub start : ℕ
  pub numbers : List ℕ
  pub round : IsShortestRoundAt next i start numbers
  pub along : IsRoundAlong sys plan place i start numbers steps
