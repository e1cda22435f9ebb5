-- All states so far are states of the task.
use Rattle.task_core.specs.Tasks.{fluent_count}
use Rattle.control_command.specs.Followed.{AreReachedWithin}
use Rattle.control_command.proofs.followed.Followed.visit.Given as goal

abbrev pub invariant-loop-number : goal.invariant-loop-number
invariant-loop-number g l = record {
  within : AreReachedWithin (fluent_count l.task) l.self.places.items;
}
