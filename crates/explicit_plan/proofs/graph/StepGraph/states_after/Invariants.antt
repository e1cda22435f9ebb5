-- All states so far are states of the task.
use Rattle.explicit_plan.specs.Reached.{AreWithin}
use Rattle.task_core.specs.Tasks.{fluent_count}
use Rattle.explicit_plan.proofs.graph.StepGraph.states_after.Given as goal

abbrev pub invariant-loop-outcome : goal.invariant-loop-outcome
invariant-loop-outcome l = record {
  within : AreWithin (fluent_count l.task) l.self.states.items;
}
