use Rattle.std.proofs.Common.{arith, inl, subst, sym, ap, ◌≡◌}
use Rattle.dd_nodes.specs.Subfunctions.{Function}
use Rattle.dd_sets.specs.Frames.{OwnsAnswer}
use Rattle.dd_sets.specs.LiveSets.{set_of}
use Rattle.dd_sets.proofs.OwnedLemmas.{answer_kept}
use Rattle.slot_board.specs.Board.{LeadFits, led, set_at}
use Rattle.slot_board.proofs.BoardSizes.{led_small}
use Rattle.slot_board.proofs.BoardSlots.{made_at, placed}
use Rattle.slot_board.proofs.board.Board.lead.Goals as goal

pub leading-answer-requires-clause-made : goal.leading-answer-requires-clause-made
leading-answer-requires-clause-made c = (c.requires.working.0.task, made_at c.requires.working.0 c.args.enc.now c.args.self.now.slots.items c.requires.working.1)

pub put-requires-clause-live : goal.put-requires-clause-live
put-requires-clause-live c =
    let start = c.requires.working.0 in
    let here = c.requires.working.1 in
    let made = made_at start c.args.enc.now c.args.self.now.slots.items here in
    (answer_kept _ _ _ c.leading-answer.result (c.leading-answer.ensures.answer start.task made)).live _ (here.working.live c.args.place c.requires.place)

pub returns : goal.returns
returns c start here fits =
    let sets = c.args.enc.now.sets in
    let slots = c.args.self.now.slots.items in
    let made = made_at start c.args.enc.now slots here in
    let e : led c.args.outcomes start.task c.args.action.0 (set_of sets c.at.result.0) ≡ led c.args.outcomes start.task c.args.action.0 (set_at sets slots c.args.into) =
    ap (λ s. led c.args.outcomes start.task c.args.action.0 (set_of sets s)) c.at.ensures in
    placed start c.args.enc.now c.leading-answer.new.enc c.put.new.enc c.args.self.now.slots.items c.put.new.self.slots.items c.args.place _ c.leading-answer.result c.put.result here (inl (led_small start c.args.outcomes c.args.action.0 (set_at sets slots c.args.into) fits)) c.leading-answer.ensures.same_slots c.put.ensures.same_slots
    (subst (λ (f : Function). OwnsAnswer sets c.leading-answer.new.enc.sets f c.leading-answer.result) e (c.leading-answer.ensures.answer start.task made)) 8 4 (omega arith) (omega arith)
    (λ full. c.leading-answer.ensures.full full start.task made start.width (subst (λ s. LeadFits start c.args.outcomes c.args.action.0 (set_of sets s)) (sym c.at.ensures) fits))
    c.put.ensures.frame c.put.ensures.here c.put.ensures.others c.put.ensures.long c.put.ensures.full c.put.ensures.sound c.put.ensures.refused c.put.ensures.stays
