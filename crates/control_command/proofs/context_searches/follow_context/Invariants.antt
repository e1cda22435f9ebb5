-- The sets are on the board, and all states so far are states of the task.
use Rattle.task_core.specs.Tasks.{fluent_count}
use Rattle.control_command.specs.Followed.{AreReachedWithin, IsTableThere}
use Rattle.control_command.proofs.context_searches.follow_context.Given as goal

abbrev pub invariant-loop-next : goal.invariant-loop-next
invariant-loop-next l = record {
  table : IsTableThere l.task l.enc l.board.slots.items l.from.stages;
  within : AreReachedWithin (fluent_count l.task) l.followed.places.items;
}
