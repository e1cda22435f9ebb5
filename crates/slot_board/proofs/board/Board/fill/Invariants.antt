use Rattle.std.proofs.Common.{◌≡◌, ◌+◌, length}
use Rattle.dd_sets.specs.LiveSets.{LiveSets}
use Rattle.slot_board.specs.Board.{AllNothing, Working}
use Rattle.slot_board.proofs.board.Board.fill.Given as goal

abbrev pub invariant-loop : goal.invariant-loop
invariant-loop l = record {
  frame : (before : LiveSets) → Working before l.fn.enc.sets l.fn.self.slots.items → Working before l.enc.sets l.self.slots.items;
  filled : (before : LiveSets) → Working before l.fn.enc.sets l.fn.self.slots.items → AllNothing l.fn.enc.sets l.fn.self.slots.items → AllNothing l.enc.sets l.self.slots.items;
  long : length l.self.slots.items ≡ length l.fn.self.slots.items + l.counter;
  same : l.enc ≡ record l.fn.enc { sets = l.enc.sets };
}
