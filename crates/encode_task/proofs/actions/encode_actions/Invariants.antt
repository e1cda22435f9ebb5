-- The slots of the first actions are made.
use Rattle.std.proofs.Common.{Contains, ◌≡◌, ℕ, ◌≤◌, ◌+◌, ◌*◌, map, take, true}
use Rattle.std.specs.List.{flat_map, list_all, list_any}
use Rattle.dd_sets.specs.Calls.{KeepsSets}
use Rattle.dd_sets.specs.LiveSets.{live_count}
use Rattle.encode_task.specs.Counts.{left_in_actions}
use Rattle.encode_task.specs.Names.{has_outcomes_within}
use Rattle.encode_task.specs.Seen.{slots_of}
use Rattle.encode_task.specs.KeptRooms.{AddsSets}
use Rattle.encode_task.specs.KeptSets.{sets_of_action}
use Rattle.encode_task.specs.Slots.{is_of_action}
use Rattle.encode_task.specs.Tables.{ActionMade, AddsOnly, AllPaired}
use Rattle.encode_task.proofs.actions.encode_actions.Given as goal

abbrev pub invariant-loop-action : goal.invariant-loop-action
invariant-loop-action l = record {
  kept : KeepsSets l.fn.sets l.sets;
  adds : AddsSets (Contains (flat_map (sets_of_action l.fn.sets.vars l.invariant') l.actions)) l.fn.sets l.sets;
  made : AllPaired (ActionMade l.invariant' l.sets) (map slots_of l.made.items) (take l.action-index l.actions);
  only : AddsOnly l.fn.sets l.sets (λ slot. list_any (is_of_action slot) (map slots_of l.made.items));
  few : (most : ℕ) → list_all (has_outcomes_within most) l.actions ≡ true
      → live_count l.sets + left_in_actions l.fn.sets.vars (map slots_of l.made.items) ≤ live_count l.fn.sets + l.action-index * (most * (l.fn.sets.vars + 1) + 1);
}
