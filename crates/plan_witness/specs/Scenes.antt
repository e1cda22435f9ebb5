-- A plan in a task, with its graph.
use Rattle.std.specs.Prelude.{ℕ}
use Rattle.task_core.specs.ContextPlans.{Configuration}
use Rattle.task_core.specs.States.{vector}
use Rattle.task_core.specs.Systems.{System}
use Rattle.task_core.specs.Tasks.{action_count, fluent_count, system_of}
use Rattle.exec_graph.specs.Values.{IsWithinFluents, graph_size}
use Rattle.plan_rules.specs.Plans.{IsPlanOf}
use Rattle.plan_rules.specs.Rules.{PlainPlan, plain_of}
use Rattle.plan_witness.specs.Marked.{IsGraphIn, place_at}
use Rattle.plan_witness.specs.declared.scenes.Scene.{Scene}
use Rattle.plan_witness.specs.declared.scenes.Spot.{Spot}

-- the system, the plan, how many configurations the graph has, and the one of a number
abbrev pub sys_in : Scene → System
sys_in scene = system_of scene.task.now

abbrev pub plan_in : Scene → PlainPlan
plan_in scene = plain_of scene.plan.now

abbrev pub size_in : Scene → ℕ
size_in scene = graph_size scene.graph.now

abbrev pub place_in : Scene → ℕ → Configuration
place_in scene = place_at (fluent_count scene.task.now) scene.graph.now

-- the configuration of a state and a context, over n fluents
abbrev pub place_of : ℕ → Spot → Configuration
place_of n spot = record { state = vector n spot.state.now; context = spot.context }

-- the plan is one of the task, and the graph is the plan's
pub record IsFollowed (scene : Scene) : Type 0 where
  pub plan : IsPlanOf (fluent_count scene.task.now) (action_count scene.task.now) scene.plan.now
  pub graph : IsGraphIn scene.task.now scene.plan.now scene.graph.now
  pub within : IsWithinFluents (fluent_count scene.task.now) scene.graph.now
