use Rattle.std.proofs.Common.{◌≡◌, map}
use Rattle.serde_json.specs.View.{view}
use Rattle.task_core.specs.States.{vector}
use Rattle.task_core.specs.Tasks.{fluent_count, fluent_names}
use Rattle.explain_command.specs.Documents.{changed_below, fluent_data}
use Rattle.explain_command.proofs.steps.changed_values.Given as goal

abbrev pub invariant-loop-number : goal.invariant-loop-number
invariant-loop-number l =
    let n = fluent_count l.task in
    map view l.names.items ≡ map (fluent_data (fluent_names l.task)) (changed_below l.made (vector n l.before) (vector n l.after) l.number)
