-- The edges so far, and those of the moves that are left.
use Rattle.std.proofs.Common.{◌≡◌, ◌++◌, List, drop, map}
use Rattle.std.specs.Option.{option_map}
use Rattle.plan_rules.specs.Rules.{plain_of}
use Rattle.task_core.specs.Tasks.{fluent_count}
use Rattle.plan_picture.specs.Runs.{PlainEdge, edges_along, rule_actions}
use Rattle.plan_picture.specs.Values.{edge_value, move_value, node_value}
use Rattle.plan_picture.proofs.runs.edges_along.Given as goal

abbrev pub invariant-loop-next : goal.invariant-loop-next
invariant-loop-next l =
    option_map (λ (edges : List PlainEdge). map edge_value l.edges.items ++ edges)
    (edges_along (map (node_value (fluent_count l.task)) l.nodes) (rule_actions (plain_of l.plan)) l.place (map move_value (drop l.next-index l.run.moves.items)))
    ≡ edges_along (map (node_value (fluent_count l.task)) l.nodes) (rule_actions (plain_of l.plan)) l.run.initial (map move_value l.run.moves.items)
