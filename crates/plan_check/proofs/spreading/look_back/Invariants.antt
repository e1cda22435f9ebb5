-- The edges to the configurations before, and the first of those to this one, were looked at.
use Rattle.std.proofs.Common.{◌≡◌, ◌+◌, ◌≤◌, length}
use Rattle.exec_graph.specs.Values.{followers_at, graph_size, predecessors_at}
use Rattle.plan_check.proofs.SpreadSteps.{IsLooking}
use Rattle.plan_check.proofs.spreading.look_back.Given as goal

abbrev pub invariant-loop-k : goal.invariant-loop-k
invariant-loop-k g l = record {
  looking : IsLooking (graph_size l.along.graph.now) l.along.need (followers_at l.along.graph.now) (predecessors_at l.along.graph.now) l.along.guard.now l.initial.marks.items l.initial.front.found.items l.done l.k l.marks.items l.front.lacks.items l.front.found.items;
  steps : l.steps ≡ l.initial.steps + l.k;
  inside : l.k ≤ length (predecessors_at l.along.graph.now l.number);
}
