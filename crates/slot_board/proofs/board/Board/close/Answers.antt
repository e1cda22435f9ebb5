use Rattle.slot_board.proofs.BoardSlots.{working_ended}
use Rattle.slot_board.proofs.board.Board.close.Goals as goal

pub returns-clause-frame : goal.returns-clause-frame
returns-clause-frame c before work = working_ended before c.cut.new.enc.sets c.cut.new.self.slots.items c.cut.ensures.long (c.cut.ensures.frame before work)
