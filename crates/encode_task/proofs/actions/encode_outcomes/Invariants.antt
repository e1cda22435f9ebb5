-- The slots of the first outcomes are made.
use Rattle.std.proofs.Common.{Contains, ◌≤◌, ◌+◌, ◌*◌, map, take}
use Rattle.std.specs.List.{flat_map, list_any}
use Rattle.dd_sets.specs.Calls.{KeepsSets}
use Rattle.dd_sets.specs.LiveSets.{live_count}
use Rattle.encode_task.specs.Counts.{left_in_outcomes}
use Rattle.encode_task.specs.KeptRooms.{AddsSets}
use Rattle.encode_task.specs.KeptSets.{next_sets}
use Rattle.encode_task.specs.Slots.{is_listed}
use Rattle.encode_task.specs.Tables.{AddsOnly, AllPaired, OutcomeMade}
use Rattle.encode_task.proofs.actions.encode_outcomes.Given as goal

abbrev pub invariant-loop-outcome : goal.invariant-loop-outcome
invariant-loop-outcome l = record {
  kept : KeepsSets l.fn.sets l.sets;
  adds : AddsSets (Contains (flat_map (next_sets l.fn.sets.vars) l.outcomes)) l.fn.sets l.sets;
  made : AllPaired (OutcomeMade l.sets) (map (λ changed. changed.items) l.made.items) (take l.outcome-index l.outcomes);
  only : AddsOnly l.fn.sets l.sets (λ slot. list_any (is_listed slot) (map (λ changed. changed.items) l.made.items));
  few : live_count l.sets + left_in_outcomes l.fn.sets.vars (map (λ changed. changed.items) l.made.items) ≤ live_count l.fn.sets + l.outcome-index * l.fn.sets.vars;
}
