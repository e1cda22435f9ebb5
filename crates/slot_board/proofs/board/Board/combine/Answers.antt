use Rattle.std.proofs.Common.{arith, subst, sym, ap, ◌∙◌, ◌≡◌}
use Rattle.dd_nodes.specs.Subfunctions.{Function}
use Rattle.dd_sets.specs.Frames.{OwnsAnswer}
use Rattle.dd_sets.specs.LiveSets.{set_of}
use Rattle.slot_board.specs.Board.{combined, set_at}
use Rattle.dd_sets.specs.Rooms.{Rough}
use Rattle.slot_board.proofs.BoardSizes.{fits_rough, rough_now}
use Rattle.slot_board.proofs.BoardSlots.{placed}
use Rattle.slot_board.proofs.board.Board.combine.Goals as goal

pub returns : goal.returns
returns c start here fits =
    let sets = c.args.enc.now.sets in
    let slots = c.args.self.now.slots.items in
    let e : combined c.args.operation (set_of sets c.at.result.0) (set_of sets c.at-2.result.0) ≡ combined c.args.operation (set_at sets slots c.args.a) (set_at sets slots c.args.b) =
    ap (λ s. combined c.args.operation (set_of sets s) (set_of sets c.at-2.result.0)) c.at.ensures ∙ ap (λ s. combined c.args.operation (set_at sets slots c.args.a) (set_of sets s)) c.at-2.ensures in
    placed start c.args.enc.now c.put_together-answer.new.enc c.put.new.enc c.args.self.now.slots.items c.put.new.self.slots.items c.args.place _ c.put_together-answer.result c.put.result here fits c.put_together-answer.ensures.same_slots c.put.ensures.same_slots
    (subst (λ (f : Function). OwnsAnswer sets c.put_together-answer.new.enc.sets f c.put_together-answer.result) e c.put_together-answer.ensures.answer) 0 0 (omega arith) (omega arith)
    (λ full. c.put_together-answer.ensures.full full start.width (subst (Rough sets.vars start.width) (sym e) (rough_now start c.args.enc.now slots here _ (fits_rough start c.args.place _ fits))))
    c.put.ensures.frame c.put.ensures.here c.put.ensures.others c.put.ensures.long c.put.ensures.full c.put.ensures.sound c.put.ensures.refused c.put.ensures.stays
