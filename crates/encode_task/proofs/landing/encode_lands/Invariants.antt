-- The slots of what the first outcomes lead to states are made.
use Rattle.std.proofs.Common.{Contains, map, ◌≤◌, ◌+◌, take}
use Rattle.dd_sets.specs.Calls.{KeepsSets}
use Rattle.dd_sets.specs.LiveSets.{live_count}
use Rattle.encode_task.specs.Made.{Holds}
use Rattle.encode_task.specs.KeptRooms.{AddsSets}
use Rattle.encode_task.specs.Slots.{is_one_of}
use Rattle.encode_task.specs.Tables.{AddsOnly, AllPaired}
use Rattle.encode_task.specs.TaskSets.{lands_of}
use Rattle.encode_task.proofs.landing.encode_lands.Given as goal

abbrev pub invariant-loop-changed : goal.invariant-loop-changed
invariant-loop-changed l = record {
  kept : KeepsSets l.fn.sets l.sets;
  adds : AddsSets (Contains (map (lands_of l.states.invariant.now) l.action.outcomes.items)) l.fn.sets l.sets;
  made : AllPaired (λ slot o. Holds l.sets slot (lands_of l.states.invariant.now o)) l.lands.items (take l.changed-index l.action.outcomes.items);
  only : AddsOnly l.fn.sets l.sets (λ slot. is_one_of slot l.lands.items);
  few : live_count l.sets ≤ live_count l.fn.sets + l.changed-index;
}
