-- All states so far are states of the task.
use Rattle.task_core.specs.Tasks.{fluent_count}
use Rattle.control_command.specs.Followed.{AreReachedWithin}
use Rattle.control_command.proofs.followed.Followed.add_outcomes.Given as goal

abbrev pub invariant-loop-outcome : goal.invariant-loop-outcome
invariant-loop-outcome l = record {
  within : AreReachedWithin (fluent_count l.task) l.self.places.items;
}
