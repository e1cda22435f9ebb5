use Rattle.std.proofs.Common.{◌+◌, ◌≤◌, drop}
use Rattle.exec_graph.specs.Values.{edge_count}
use Rattle.plan_check.proofs.GoalCosts.{row_cost}
use Rattle.plan_check.proofs.GoalLabels.{AllSoFar, AnySoFar}
use Rattle.plan_check.proofs.goals.+labelling.Given as goal

abbrev pub invariant-labels_of_all-loop-goal : goal.invariant-labels_of_all-loop-goal
invariant-labels_of_all-loop-goal g l = record {
  shows : AllSoFar l.graph l.goals (drop l.goal-index l.goals) l.marks.items;
  steps : l.steps + row_cost (edge_count l.graph) (drop l.goal-index l.goals) ≤ l.initial.steps + row_cost (edge_count l.graph) l.goals;
}

abbrev pub invariant-labels_of_any-loop-goal : goal.invariant-labels_of_any-loop-goal
invariant-labels_of_any-loop-goal g l = record {
  shows : AnySoFar l.graph l.goals (drop l.goal-index l.goals) l.marks.items;
  steps : l.steps + row_cost (edge_count l.graph) (drop l.goal-index l.goals) ≤ l.initial.steps + row_cost (edge_count l.graph) l.goals;
}
