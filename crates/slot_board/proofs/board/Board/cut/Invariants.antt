use Rattle.std.proofs.Common.{◌≡◌, ◌<◌, ◌≤◌, ℕ, length}
use Rattle.dd_sets.specs.LiveSets.{LiveSets}
use Rattle.dd_sets.specs.Rooms.{NoRoom}
use Rattle.slot_board.specs.Board.{Working, set_at}
use Rattle.slot_board.proofs.board.Board.cut.Given as goal

abbrev pub invariant-loop-self : goal.invariant-loop-self
invariant-loop-self l = record {
  frame : (before : LiveSets) → Working before l.fn.enc.sets l.fn.self.slots.items → Working before l.enc.sets l.self.slots.items;
  sets : (place : ℕ) → place < l.fn.places → set_at l.enc.sets l.self.slots.items place ≡ set_at l.fn.enc.sets l.fn.self.slots.items place;
  room : (before : LiveSets) (width most others : ℕ) → NoRoom width most others before l.fn.enc.sets → NoRoom width most others before l.enc.sets;
  long : l.fn.places ≤ length l.self.slots.items;
  same : l.enc ≡ record l.fn.enc { sets = l.enc.sets };
}

abbrev pub decreases-loop-self : goal.decreases-loop-self
decreases-loop-self l = length l.self.slots.items
