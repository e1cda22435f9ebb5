use Rattle.std.proofs.Common.{◌≡◌, map, take}
use Rattle.plan_page.specs.Pages.{node_data}
use Rattle.plan_picture.specs.Values.{node_value}
use Rattle.serde_json.specs.View.{view}
use Rattle.task_core.specs.Tasks.{fluent_count}
use Rattle.plan_page.proofs.values.node_values.Given as goal

abbrev pub invariant-loop-node : goal.invariant-loop-node
invariant-loop-node l = map view l.values.items ≡ map (node_data (fluent_count l.task)) (map (node_value (fluent_count l.task)) (take l.node-index l.nodes))
