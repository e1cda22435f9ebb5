-- The walk stays in the table and keeps the function at the state; each step lowers the number.
use Rattle.std.proofs.Common.{◌≡◌}
use Rattle.dd_nodes.specs.NodeList.{IsNumber, function}
use Rattle.task_core.specs.States.{truth}
use Rattle.dd_sets.specs.Orders.{read}
use Rattle.dd_sets.proofs.member.is_member.Given as goal

abbrev pub invariant-loop-node : goal.invariant-loop-node
invariant-loop-node l = record {
  in_table : IsNumber l.dd.nodes l.at.0;
  same : read l.order.fluents (function l.dd.nodes l.at.0) (truth l.s) ≡ read l.order.fluents (function l.dd.nodes l.fn.number.0) (truth l.s);
}

abbrev pub decreases-loop-node : goal.decreases-loop-node
decreases-loop-node l = l.at.0
