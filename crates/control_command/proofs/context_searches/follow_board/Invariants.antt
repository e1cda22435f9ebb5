-- The sets are on the board, and all states so far are states of the task.
use Rattle.task_core.specs.Tasks.{fluent_count}
use Rattle.control_command.specs.Followed.{AreReachedWithin, IsTableThere}
use Rattle.control_command.proofs.context_searches.follow_board.Given as goal

abbrev pub invariant-loop-number : goal.invariant-loop-number
invariant-loop-number l = record {
  table : IsTableThere l.task l.enc l.board.slots.items l.stages;
  within : AreReachedWithin (fluent_count l.task) l.followed.places.items;
}
