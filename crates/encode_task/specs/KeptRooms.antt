-- Private: what a call that keeps slots says of the moment when it finds no room.
use Rattle.std.specs.Prelude.{ℕ, ◌+◌, ◌≤◌, ◌⊎◌}
use Rattle.dd_nodes.specs.Subfunctions.{Function}
use Rattle.dd_sets.specs.Calls.{KeepsSets}
use Rattle.dd_sets.specs.LiveSets.{LiveSets, IsLive, live_count, set_of}
use Rattle.dd_sets.specs.Rooms.{NoRoom}

-- each slot that is live after was live before, or holds a set of which P holds
abbrev pub AddsSets : (Function → Type 0) → LiveSets → LiveSets → Type 0
AddsSets P before after =
    (slot : ℕ) → IsLive after slot → IsLive before slot ⊎ P (set_of after slot)

-- a call that keeps slots found no room: at some moment the live slots were those of before and at
-- most so many more, each with a set of which P holds, and a call from there, with at most 208 slots
-- of its own of which one may hold a rough set, found no room
pub record NoRoomKept (P : Function → Type 0) (slots w : ℕ) (before after : LiveSets)
    : Type 0 where
  pub middle : LiveSets
  pub kept : KeepsSets before middle
  pub adds : AddsSets P before middle
  pub few : live_count middle ≤ live_count before + slots
  pub no_room : NoRoom w 208 1 middle after
