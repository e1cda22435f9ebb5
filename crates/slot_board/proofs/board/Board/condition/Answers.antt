use Rattle.std.proofs.Common.{arith, inl}
use Rattle.encode_task.specs.WorkingSets.IsPartOf.{itself}
use Rattle.task_core.specs.Conditions.{holds}
use Rattle.slot_board.proofs.BoardSizes.{small_now}
use Rattle.slot_board.proofs.BoardSlots.{placed}
use Rattle.slot_board.proofs.board.Board.condition.Goals as goal

pub returns : goal.returns
returns c start here spare fits =
    placed start c.args.enc.now c.where_holds-answer.new.enc c.put.new.enc c.args.self.now.slots.items c.put.new.self.slots.items c.args.place _ c.where_holds-answer.result c.put.result here (inl (fits (holds c.args.cond.now) (itself c.args.cond.now))) c.where_holds-answer.ensures.same_slots c.put.ensures.same_slots
    c.where_holds-answer.ensures.answer 204 0 (omega arith) (omega arith) (λ full. c.where_holds-answer.ensures.full full start.width (λ part is. small_now start c.args.enc.now c.args.self.now.slots.items here part (fits part is)))
    c.put.ensures.frame c.put.ensures.here c.put.ensures.others c.put.ensures.long c.put.ensures.full c.put.ensures.sound c.put.ensures.refused c.put.ensures.stays
