-- The values so far, and those of the steps that are left, are together all.
use Rattle.std.proofs.Common.{◌≡◌, ◌++◌, drop, map}
use Rattle.counterexamples.specs.Values.{source_value}
use Rattle.plan_witness.specs.Values.{steps_value}
use Rattle.serde_json.specs.View.{view}
use Rattle.task_core.specs.States.{vector}
use Rattle.task_core.specs.Tasks.{fluent_count}
use Rattle.explain_command.specs.Documents.{steps_data}
use Rattle.explain_command.proofs.steps.step_values.Given as goal

abbrev pub invariant-loop-step : goal.invariant-loop-step
invariant-loop-step l =
    let n = fluent_count l.source.task.now in
    map view l.values.items ++ steps_data (source_value l.source) (vector n l.before) (steps_value n (drop l.step-index l.step-items))
    ≡ steps_data (source_value l.source) (vector n l.run.start) (steps_value n l.run.steps.items)
