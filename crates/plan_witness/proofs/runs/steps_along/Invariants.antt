-- The steps so far are a run along the numbers so far, of which `from` is the last.
use Rattle.std.proofs.Common.{◌≡◌, ◌<◌, take}
use Rattle.task_core.specs.Tasks.{fluent_count, system_of}
use Rattle.plan_check.specs.Walks.{last_number}
use Rattle.plan_rules.specs.Rules.{plain_of}
use Rattle.exec_graph.specs.Values.{graph_size}
use Rattle.plan_witness.specs.Marked.{IsRunAlong, place_at}
use Rattle.plan_witness.specs.Values.{steps_value}
use Rattle.plan_witness.specs.Within.{HasStepsWithin}
use Rattle.plan_witness.proofs.runs.steps_along.Given as goal

abbrev pub invariant-loop-k : goal.invariant-loop-k
invariant-loop-k l = record {
  below : l.from < graph_size l.scene.graph.now;
  last : l.from ≡ last_number l.start (take l.k l.numbers);
  along : IsRunAlong (system_of l.scene.task.now) (plain_of l.scene.plan.now) (place_at (fluent_count l.scene.task.now) l.scene.graph.now) l.start (take l.k l.numbers) (steps_value (fluent_count l.scene.task.now) l.steps.items);
  within : HasStepsWithin (fluent_count l.scene.task.now) l.steps.items;
}
