use Rattle.std.proofs.Common.{arith, inl}
use Rattle.slot_board.proofs.BoardSizes.{whole_small}
use Rattle.slot_board.proofs.BoardSlots.{placed}
use Rattle.slot_board.proofs.board.Board.whole.Goals as goal

pub returns : goal.returns
returns c start here =
    placed start c.args.enc.now c.all_lists-answer.new.enc c.put.new.enc c.args.self.now.slots.items c.put.new.self.slots.items c.args.place _ c.all_lists-answer.result c.put.result here (inl (whole_small start)) c.all_lists-answer.ensures.same_slots c.put.ensures.same_slots
    c.all_lists-answer.ensures.answer 0 0 (omega arith) (omega arith) (λ full. c.all_lists-answer.ensures.full full start.width)
    c.put.ensures.frame c.put.ensures.here c.put.ensures.others c.put.ensures.long c.put.ensures.full c.put.ensures.sound c.put.ensures.refused c.put.ensures.stays
