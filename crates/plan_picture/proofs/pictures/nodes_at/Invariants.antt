-- The nodes so far show their places.
use Rattle.std.proofs.Common.{◌≡◌, length, map}
use Rattle.exec_graph.specs.Values.{plain_graph}
use Rattle.plan_rules.specs.Rules.{plain_of}
use Rattle.task_core.specs.Tasks.{fluent_count, system_of}
use Rattle.plan_picture.specs.Places.{ShowEach, configurations_of}
use Rattle.plan_picture.specs.Values.{node_value}
use Rattle.plan_picture.proofs.pictures.nodes_at.Given as goal

abbrev pub invariant-loop-number : goal.invariant-loop-number
invariant-loop-number l = record {
  count : length l.nodes.items ≡ l.number;
  each : ShowEach (system_of l.task) (plain_of l.plan) (configurations_of (fluent_count l.task) l.places)
      (plain_graph (fluent_count l.task) l.graph).initial (map (node_value (fluent_count l.task)) l.nodes.items);
}
