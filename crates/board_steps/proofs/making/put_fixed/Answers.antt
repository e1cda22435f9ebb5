use Rattle.std.proofs.Common.{◌≡◌, ℕ, arith, ap, subst, sym}
use Rattle.dd_nodes.specs.Subfunctions.{Function}
use Rattle.dd_ops.specs.Operations.{cofactor_of}
use Rattle.dd_sets.specs.Frames.{OwnsAnswer}
use Rattle.dd_sets.specs.LiveSets.{set_of}
use Rattle.dd_sets.specs.Rooms.{Rough}
use Rattle.slot_board.specs.Board.{set_at}
use Rattle.slot_board.proofs.BoardSizes.{fits_rough, rough_now}
use Rattle.slot_board.proofs.BoardSlots.{placed}
use Rattle.board_steps.proofs.making.put_fixed.Goals as goal

pub returns : goal.returns
returns c start here fits =
    let sets = c.args.enc.now.sets in
    let slots = c.args.board.now.slots.items in
    let e : cofactor_of (set_of sets c.at.result.0) c.args.f.0 c.args.value ≡ cofactor_of (set_at sets slots c.args.place) c.args.f.0 c.args.value =
    ap (λ (s : ℕ). cofactor_of (set_of sets s) c.args.f.0 c.args.value) c.at.ensures in
    placed start c.args.enc.now c.once_fixed-answer.new.enc c.put.new.enc c.args.board.now.slots.items c.put.new.board.slots.items c.args.place _ c.once_fixed-answer.result c.put.result here fits c.once_fixed-answer.ensures.same_slots c.put.ensures.same_slots
    (subst (λ (f : Function). OwnsAnswer sets c.once_fixed-answer.new.enc.sets f c.once_fixed-answer.result) e c.once_fixed-answer.ensures.answer) 0 0 (omega arith) (omega arith)
    (λ full. c.once_fixed-answer.ensures.full full start.width (subst (Rough sets.vars start.width) (sym e) (rough_now start c.args.enc.now slots here _ (fits_rough start c.args.place _ fits))))
    c.put.ensures.frame c.put.ensures.here c.put.ensures.others c.put.ensures.long c.put.ensures.full c.put.ensures.sound c.put.ensures.refused c.put.ensures.stays
