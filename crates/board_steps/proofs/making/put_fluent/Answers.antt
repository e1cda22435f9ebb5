use Rattle.std.proofs.Common.{arith}
use Rattle.slot_board.proofs.BoardSizes.{fits_rough, rough_now}
use Rattle.slot_board.proofs.BoardSlots.{placed}
use Rattle.board_steps.proofs.making.put_fluent.Goals as goal

pub returns : goal.returns
returns c start here fits =
    placed start c.args.enc.now c.where_true-answer.new.enc c.put.new.enc c.args.board.now.slots.items c.put.new.board.slots.items c.args.place _ c.where_true-answer.result c.put.result here fits c.where_true-answer.ensures.same_slots c.put.ensures.same_slots
    c.where_true-answer.ensures.answer 0 0 (omega arith) (omega arith)
    (λ full. c.where_true-answer.ensures.full full start.width (rough_now start c.args.enc.now c.args.board.now.slots.items here _ (fits_rough start c.args.place _ fits)))
    c.put.ensures.frame c.put.ensures.here c.put.ensures.others c.put.ensures.long c.put.ensures.full c.put.ensures.sound c.put.ensures.refused c.put.ensures.stays
