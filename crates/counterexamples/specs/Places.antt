-- Private: where a state stands among others, and where a run ends.
use Rattle.std.specs.Prelude.{ℕ, suc, List, [], ◌∷◌, if◌then◌else◌}
use Rattle.exec_graph.specs.Executions.{IsReachedBy}
use Rattle.plan_witness.specs.Runs.{end_of}
use Rattle.plan_witness.specs.Scenes.{plan_in, sys_in}
use Rattle.plan_witness.specs.Values.{run_value}
use Rattle.plan_witness.specs.declared.runs.Run.{Run}
use Rattle.plan_witness.specs.declared.scenes.Scene.{Scene}
use Rattle.task_core.specs.Tasks.{fluent_count}
use Rattle.task_core.specs.Vectors.{Vector, same_vector}

-- Private: the first place of a state in a list; the list's length, where it isn't in it
abbrev pub place_in : List Vector → Vector → ℕ
place_in [] v = 0
place_in (w ∷ ws) v = if same_vector w v then 0 else suc (place_in ws v)

-- Private: the plan may reach the configuration in which a run ends
abbrev pub EndsReached : Scene → Run → Type 0
EndsReached scene run =
    let path = run_value (fluent_count scene.task.now) run in
    IsReachedBy (sys_in scene) (plan_in scene) (end_of path.start path.steps)
