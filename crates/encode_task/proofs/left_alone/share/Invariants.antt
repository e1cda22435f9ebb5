-- The first fluents are done.
use Rattle.std.proofs.Common.{◌≡◌, ◌≤◌, ◌+◌, map, length}
use Rattle.std.specs.List.{list_any}
use Rattle.dd_sets.specs.Calls.{KeepsSets}
use Rattle.dd_sets.specs.LiveSets.{live_count}
use Rattle.encode_task.specs.Counts.{IsLeftAlone, count_below, some_leaves}
use Rattle.encode_task.specs.KeptRooms.{AddsSets}
use Rattle.encode_task.specs.Seen.{slots_of}
use Rattle.encode_task.specs.Slots.{is_slot}
use Rattle.encode_task.specs.Tables.{AddsOnly, IsShared, SharesLeft}
use Rattle.encode_task.proofs.left_alone.share.Given as goal

abbrev pub invariant-loop-f : goal.invariant-loop-f
invariant-loop-f l = record {
  kept : KeepsSets l.fn.sets l.sets;
  adds : AddsSets (IsLeftAlone l.fn.sets.vars (map slots_of l.actions)) l.fn.sets l.sets;
  long : length l.shared.items ≡ l.f;
  holds : IsShared l.sets l.shared.items;
  all : SharesLeft l.f (map slots_of l.actions) l.shared.items;
  only : AddsOnly l.fn.sets l.sets (λ slot. list_any (is_slot slot) l.shared.items);
  few : live_count l.sets ≤ live_count l.fn.sets + count_below (some_leaves (map slots_of l.actions)) l.f;
}
