-- The first literals are done.
use Rattle.std.proofs.Common.{Contains, ◌≤◌, ◌+◌, ◌++◌, take}
use Rattle.dd_sets.specs.Calls.{KeepsSets}
use Rattle.dd_sets.specs.LiveSets.{LiveSets, live_count}
use Rattle.task_core.specs.Cubes.{Cube}
use Rattle.encode_task.specs.Counts.{left_by}
use Rattle.encode_task.specs.KeptRooms.{AddsSets}
use Rattle.encode_task.specs.KeptSets.{next_sets}
use Rattle.encode_task.specs.Slots.{is_listed}
use Rattle.encode_task.specs.Tables.{AddsOnly, IsDone}
use Rattle.encode_task.proofs.actions.encode_change.Given as goal

abbrev pub invariant-loop-lit : goal.invariant-loop-lit
invariant-loop-lit l = record {
  kept : KeepsSets l.fn.sets l.sets;
  adds : AddsSets (Contains (next_sets l.fn.sets.vars l.outcome)) l.fn.sets l.sets;
  done : (front : Cube) → IsDone l.fn.sets l.fn.changed.items l.outcome front → IsDone l.sets l.changed.items l.outcome (front ++ take l.lit-index l.lit-items);
  only : (before : LiveSets) → AddsOnly before l.fn.sets (λ slot. is_listed slot l.fn.changed.items) → AddsOnly before l.sets (λ slot. is_listed slot l.changed.items);
  few : live_count l.sets + left_by l.fn.sets.vars l.changed.items ≤ live_count l.fn.sets + left_by l.fn.sets.vars l.fn.changed.items;
}
