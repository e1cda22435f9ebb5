-- The edges to the first of the configurations that were found were looked at.
use Rattle.std.proofs.Common.{◌+◌, ◌-◌, ◌≤◌, length, take}
use Rattle.exec_graph.specs.Values.{followers_at, graph_size, predecessors_at}
use Rattle.plan_check.specs.Marks.{unmarked}
use Rattle.plan_check.specs.Spreads.{IsSpreading, Reaches, edges_to}
use Rattle.plan_check.proofs.spreading.spread.Given as goal

abbrev pub invariant-loop-done : goal.invariant-loop-done
invariant-loop-done g l = record {
  spreading : IsSpreading (graph_size l.along.graph.now) l.along.need (followers_at l.along.graph.now) l.along.guard.now l.marks.items l.front.lacks.items l.front.found.items
      (edges_to (predecessors_at l.along.graph.now) (take l.done l.front.found.items));
  reaches : Reaches l.along.need (followers_at l.along.graph.now) l.along.guard.now l.initial.marks.items l.marks.items;
  steps : l.steps ≤ l.initial.steps + length (edges_to (predecessors_at l.along.graph.now) (take l.done l.front.found.items));
}

abbrev pub decreases-loop-done : goal.decreases-loop-done
decreases-loop-done g l = unmarked l.marks.items + length l.front.found.items - l.done
