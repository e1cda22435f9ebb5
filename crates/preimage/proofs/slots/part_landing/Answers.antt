-- Without what the outcome leads to states on the other side.
use Rattle.std.proofs.Common.{◌≡◌, Ok, Err, arith, sym, subst, IfOk, Result}
use Rattle.dd_nodes.specs.Subfunctions.{Function}
use Rattle.dd_ops.specs.Operations.{minus_of}
use Rattle.dd_sets.specs.Frames.{OwnsAnswer}
use Rattle.dd_sets.specs.LiveSets.{LiveSets, IsLive, set_of}
use Rattle.dd_sets.specs.Rooms.{Rough, Small}
use Rattle.dd_sets.specs.declared.errors.SetErr.{SetErr}
use Rattle.dd_sets.specs.declared.slots.SetId.{SetId}
use Rattle.dd_sets.proofs.OwnedLemmas.{both, one_live}
use Rattle.dd_sets.proofs.RoomSteps.{room_join}
use Rattle.encode_task.proofs.PartLemmas.{answer_ready}
use Rattle.preimage.specs.Sides.{off_side}
use Rattle.preimage.proofs.SizeLemmas.{rough_slot, rough_slots}
use Rattle.preimage.proofs.slots.part_landing.Goals as goal

-- an answer is live
answer_live : (now mid : LiveSets) (g : Function) (b : Result SetId SetErr) → OwnsAnswer now mid g b → IfOk b (λ slot. IsLive mid slot.0)
answer_live now mid g (Ok slot) owns = one_live now mid slot.0 g owns
answer_live now mid g (Err e) owns = tt

pub other_side-other-requires-clause-live : goal.other_side-other-requires-clause-live
other_side-other-requires-clause-live c = let owned = c.requires.owned in answer_live owned.1 _ owned.3 c.args.b owned.5

pub without-requires : goal.without-requires
without-requires c =
    let owned = c.requires.owned in
    answer_ready owned.0 owned.1 _ c.args.a owned.2 _ c.other_side-other.result owned.4 (c.other_side-other.ensures.answer owned.1 owned.3 owned.5)

pub returns-clause-answer : goal.returns-clause-answer
returns-clause-answer c before now f g owns answer =
    c.without.ensures.answer before f _ (both _ _ _ c.args.a f _ c.other_side-other.result owns (c.other_side-other.ensures.answer now g answer))

pub returns-clause-full : goal.returns-clause-full
returns-clause-full c full before now f g owns answer width fits room =
    let lands = set_of c.args.enc.now.sets c.args.lands.0 in
    let vars : now.vars ≡ before.vars = owns.kept.vars in
    room_join minus_of before now _ c.args.a f (off_side c.args.side lands g) c.other_side-other.result 1 3 0 1 2 2 owns (c.other_side-other.ensures.answer now g answer)
    (λ refused. c.other_side-other.ensures.full refused now g answer width (subst (λ v. Small v width g) (sym vars) fits.led) (subst (λ v. Rough v width (off_side c.args.side lands g)) (sym vars) fits.other) room)
    (rough_slot before.vars width 0 f fits.rest) (rough_slots before.vars width 0 0 (off_side c.args.side lands g) f fits.other fits.rest) fits.left (omega arith) (omega arith) (omega arith) (omega arith)
    (λ rough. c.without.ensures.full full width rough)
