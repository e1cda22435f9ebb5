-- All states so far are states of the task.
use Rattle.explicit_plan.specs.Reached.{AreWithin}
use Rattle.task_core.specs.Tasks.{fluent_count}
use Rattle.explicit_plan.proofs.graph.StepGraph.moves_from.Given as goal

abbrev pub invariant-loop-number : goal.invariant-loop-number
invariant-loop-number l = record {
  within : AreWithin (fluent_count l.task) l.self.states.items;
}
