-- The first changes are done.
use Rattle.std.proofs.Common.{Contains, ◌≤◌, ◌+◌, take}
use Rattle.dd_sets.specs.Calls.{KeepsSets}
use Rattle.dd_sets.specs.LiveSets.{live_count}
use Rattle.encode_task.specs.Counts.{left_by}
use Rattle.encode_task.specs.KeptRooms.{AddsSets}
use Rattle.encode_task.specs.KeptSets.{next_sets}
use Rattle.encode_task.specs.Slots.{is_listed}
use Rattle.encode_task.specs.Names.{literals_of}
use Rattle.encode_task.specs.Tables.{AddsOnly, IsDone}
use Rattle.encode_task.proofs.actions.encode_outcome.Given as goal

abbrev pub invariant-loop-change : goal.invariant-loop-change
invariant-loop-change l = record {
  kept : KeepsSets l.fn.sets l.sets;
  adds : AddsSets (Contains (next_sets l.fn.sets.vars l.outcome)) l.fn.sets l.sets;
  done : IsDone l.sets l.changed.items l.outcome (literals_of (take l.change-index l.change-items));
  only : AddsOnly l.fn.sets l.sets (λ slot. is_listed slot l.changed.items);
  few : live_count l.sets + left_by l.fn.sets.vars l.changed.items ≤ live_count l.fn.sets + l.fn.sets.vars;
}
