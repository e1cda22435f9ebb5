use Rattle.std.proofs.Common.{◌≡◌, map, take}
use Rattle.goal_witness.specs.Lines.{line_value}
use Rattle.serde_json.specs.View.{view}
use Rattle.task_core.specs.Tasks.{fluent_names}
use Rattle.explain_command.specs.Documents.{line_data}
use Rattle.explain_command.proofs.parts.lines_value.Given as goal

abbrev pub invariant-loop-line : goal.invariant-loop-line
invariant-loop-line l = map view l.values.items ≡ map (line_data (fluent_names l.task)) (map line_value (take l.line-index l.lines))
