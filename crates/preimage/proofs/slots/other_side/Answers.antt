-- An answer, or a refusal that is passed on.
use Rattle.std.proofs.Common.{◌≡◌, [], ◌∷◌, arith, sym, subst, ◌∙◌}
use Rattle.dd_nodes.specs.Subfunctions.{Function}
use Rattle.dd_sets.specs.LiveSets.{set_of}
use Rattle.dd_sets.specs.Rooms.{Rough}
use Rattle.dd_sets.proofs.OwnedLemmas.{own_set}
use Rattle.dd_sets.proofs.RoomSteps.{room_owned, room_wider}
use Rattle.encode_task.proofs.PartLemmas.{answer_slot}
use Rattle.preimage.specs.Sides.{off_side}
use Rattle.preimage.proofs.SizeLemmas.{small_slot}
use Rattle.preimage.proofs.slots.other_side.Goals as goal

pub returns-in-Ok-clause-full : goal.returns-in-Ok-clause-full
returns-in-Ok-clause-full c full before g answer width small rough room =
    let sets = c.args.enc.now.sets in
    let owns = answer_slot _ _ g c.args.b _ c.in-Ok.is answer in
    let held : set_of sets c.in-Ok.led.0 ≡ g = own_set _ _ c.in-Ok.led.0 g [] [] owns in
    room_owned _ _ ((c.in-Ok.led.0, g) ∷ []) owns 0 1 0 0 0 (small_slot before.vars width 0 g small) (omega arith) (omega arith)
    (c.other_led.ensures.full full width
    (subst (λ v. Rough v width (off_side c.args.side (set_of sets c.args.lands.0) (set_of sets c.in-Ok.led.0))) (sym owns.kept.vars)
    (subst (λ (h : Function). Rough before.vars width (off_side c.args.side (set_of sets c.args.lands.0) h)) (sym held) rough)))

pub returns-in-Err-clause-full : goal.returns-in-Err-clause-full
returns-in-Err-clause-full c full before g answer width small rough room = room_wider _ 0 1 0 0 (omega arith) (omega arith) (room (c.in-Err.is ∙ full))
