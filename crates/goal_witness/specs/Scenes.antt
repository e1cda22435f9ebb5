-- Private: a plan in a task, with its graph.
use Rattle.std.specs.Prelude.{◌<◌, ℕ}
use Rattle.ctl_syntax.specs.Goals.{CtlTree}
use Rattle.ctl_syntax.specs.Values.{NamesBelow}
use Rattle.exec_graph.specs.Values.{IsWithinFluents}
use Rattle.plan_check.specs.Labels.{HasFollowers}
use Rattle.plan_rules.specs.Plans.{IsPlanOf}
use Rattle.plan_witness.specs.Marked.{IsGraphIn}
use Rattle.task_core.specs.Tasks.{action_count, fluent_count}
use Rattle.task_core.specs.declared.conditions.Cond.{Cond}
use Rattle.goal_witness.specs.Failures.{IsFalseIn}
use Rattle.plan_witness.specs.declared.scenes.Scene.{Scene}
pub use Rattle.plan_witness.specs.Scenes.{place_in, plan_in, size_in, sys_in}

-- Private: the plan is one of the task, the graph is the plan's, and each of its configurations has a
-- follower
pub record IsScene (scene : Scene) : Type 0 where
  pub plan : IsPlanOf (fluent_count scene.task.now) (action_count scene.task.now) scene.plan.now
  pub graph : IsGraphIn scene.task.now scene.plan.now scene.graph.now
  pub within : IsWithinFluents (fluent_count scene.task.now) scene.graph.now
  pub followers : HasFollowers scene.graph.now

-- Private: a goal over the task's fluents is false at the configuration of a number
pub record IsFalseAtNumber (scene : Scene) (goal : CtlTree Cond) (i : ℕ) : Type 0 where
  pub below : i < size_in scene
  pub names : NamesBelow (fluent_count scene.task.now) goal
  pub fails : IsFalseIn (sys_in scene) (plan_in scene) goal (place_in scene i)
