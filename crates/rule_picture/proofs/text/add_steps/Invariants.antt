-- The lines of the steps so far were added.
use Rattle.std.proofs.Common.{◌≡◌, map, take}
use Rattle.std.specs.List.{flat_map}
use Rattle.std.specs.Str.{bytes_eq}
use Rattle.indexmap.specs.IndexSet.{insert_all}
use Rattle.plan_picture.specs.Values.{node_value, step_value}
use Rattle.task_core.specs.Tasks.{fluent_count, fluent_names}
use Rattle.rule_picture.specs.Texts.{step_lines}
use Rattle.rule_picture.specs.Values.{bytes_of, seen_values}
use Rattle.rule_picture.proofs.text.add_steps.Given as goal

abbrev pub invariant-loop-step : goal.invariant-loop-step
invariant-loop-step l =
    bytes_of l.lines.items
    ≡ insert_all bytes_eq (bytes_of l.fn.lines.items)
    (flat_map (step_lines (fluent_names l.drawn.task.now) (seen_values l.drawn.rules.now) (map (node_value (fluent_count l.drawn.task.now)) l.drawn.nodes.now) (node_value (fluent_count l.drawn.task.now) l.node))
    (map step_value (take l.step-index l.node.steps.items)))
