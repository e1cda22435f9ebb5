-- The lines are those for the nodes so far.
use Rattle.std.proofs.Common.{◌≡◌, [], map, take}
use Rattle.std.specs.List.{flat_map}
use Rattle.std.specs.Str.{bytes_eq}
use Rattle.indexmap.specs.IndexSet.{insert_all}
use Rattle.plan_picture.specs.Values.{node_value}
use Rattle.task_core.specs.Tasks.{action_names, fluent_count, fluent_names}
use Rattle.rule_picture.specs.Texts.{lines_for}
use Rattle.rule_picture.specs.Values.{bytes_of, seen_values}
use Rattle.rule_picture.proofs.text.all_lines.Given as goal

abbrev pub invariant-loop-node : goal.invariant-loop-node
invariant-loop-node l =
    bytes_of l.lines.items
    ≡ insert_all bytes_eq []
    (flat_map (lines_for (fluent_names l.fn.task) (action_names l.fn.task) (seen_values l.fn.rules) (map (node_value (fluent_count l.fn.task)) l.nodes))
    (map (node_value (fluent_count l.fn.task)) (take l.node-index l.nodes)))
