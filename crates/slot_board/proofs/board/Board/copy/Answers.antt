use Rattle.std.proofs.Common.{arith}
use Rattle.slot_board.proofs.BoardSlots.{placed}
use Rattle.slot_board.proofs.board.Board.copy.Goals as goal

pub returns : goal.returns
returns c start here fits =
    placed start c.args.enc.now c.copied-answer.new.enc c.put.new.enc c.args.self.now.slots.items c.put.new.self.slots.items c.args.place _ c.copied-answer.result c.put.result here fits c.copied-answer.ensures.same_slots c.put.ensures.same_slots
    c.copied-answer.ensures.answer 0 0 (omega arith) (omega arith) (λ full. c.copied-answer.ensures.full full start.width)
    c.put.ensures.frame c.put.ensures.here c.put.ensures.others c.put.ensures.long c.put.ensures.full c.put.ensures.sound c.put.ensures.refused c.put.ensures.stays
