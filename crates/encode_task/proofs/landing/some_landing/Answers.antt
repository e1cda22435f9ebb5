-- One slot more.
use Rattle.std.proofs.Common.{◌+◌, inl, inr, refl, get_or, [], ◌∷◌, arith, sym, subst}
use Rattle.std.proofs.lemmas.Result.{err_from_is_err_and}
use Rattle.dd_nodes.specs.Subfunctions.{Function}
use Rattle.dd_sets.specs.Frames.{Owns}
use Rattle.dd_sets.proofs.OwnedLemmas.{answered, both}
use Rattle.dd_sets.proofs.RoomSteps.{room_for, room_join}
use Rattle.std.proofs.lemmas.List.Elements.{Contains-get_or}
use Rattle.dd_ops.specs.Operations.{and_of, or_of}
use Rattle.dd_sets.specs.LiveSets.{set_of}
use Rattle.dd_sets.specs.Rooms.{Rough, Small}
use Rattle.dd_sets.specs.declared.slots.SetId.{SetId}
use Rattle.dd_sets.proofs.SizeLemmas.{small_rough}
use Rattle.encode_task.proofs.LandsLemmas.{landing_more}
use Rattle.encode_task.proofs.PartLemmas.{answer_refusal, answer_slot, same_refusal}
use Rattle.encode_task.proofs.landing.some_landing.Goals as goal

pub returns-in_err-some-2-clause-answer : goal.returns-in_err-some-2-clause-answer
returns-in_err-some-2-clause-answer c =
    let p = err_from_is_err_and c.from_residual-in_err-some-2.result c.from_residual-in_err-some-2.ensures.1 in
    answer_refusal _ _ _ _ c.in_some.result _ _ _ c.in_err-some-2.was p.1
    (c.in_some.ensures.answer _ _ _ (both _ _ _ c.loop-slot.some _ _ c.meet-landing.result c.loop-slot.invariant
    (answered _ _ _ c.meet-landing.result c.meet-landing.ensures.added c.meet-landing.ensures.kept c.meet-landing.ensures.refused)))

pub returns-in_err-some-2-clause-full : goal.returns-in_err-some-2-clause-full
returns-in_err-some-2-clause-full c full w small rough =
    let p = err_from_is_err_and c.from_residual-in_err-some-2.result c.from_residual-in_err-some-2.ensures.1 in
    let owns = c.loop-slot.invariant in
    let kept = owns.kept in
    let slot : SetId = get_or c.args.lands.now c.loop-slot.slot-index (record { 0 = 0 }) in
    let slot_live = c.requires.all_live c.loop-slot.slot-index (record { 0 = 0 }) c.loop-slot-test.true in
    let so_far = small c.loop-slot.slot-index in
    let one : Rough c.args.sets.now.vars w (and_of (set_of c.loop-slot.sets c.args.allowed.0) (set_of c.loop-slot.sets slot.0)) =
    subst (λ (f : Function). Rough c.args.sets.now.vars w (and_of f (set_of c.loop-slot.sets slot.0))) (sym (kept.sets c.args.allowed.0 c.requires.live))
    (subst (λ (f : Function). Rough c.args.sets.now.vars w (and_of (set_of c.args.sets.now c.args.allowed.0) f)) (sym (kept.sets slot.0 slot_live))
    (rough slot (Contains-get_or c.args.lands.now c.loop-slot.slot-index (record { 0 = 0 }) c.loop-slot-test.true))) in
    room_join or_of _ _ _ c.loop-slot.some _ _ c.meet-landing.result 0 2 0 0 1 1 owns
    (answered _ _ _ c.meet-landing.result c.meet-landing.ensures.added c.meet-landing.ensures.kept c.meet-landing.ensures.refused)
    (λ refused. room_for _ _ _ (c.meet-landing.ensures.full refused) c.meet-landing.ensures.kept.vars c.meet-landing.ensures.kept.limit 0 0
    (subst (λ v. Rough v w (and_of (set_of c.loop-slot.sets c.args.allowed.0) (set_of c.loop-slot.sets slot.0))) (sym kept.vars) one))
    (inl (so_far, tt)) (inr (one, 0, refl, inl (so_far, tt)))
    (small_rough _ w _ (subst (λ (f : Function). Small c.args.sets.now.vars w f)
    (sym (landing_more _ _ c.args.allowed.0 c.args.lands.now c.loop-slot.slot-index _ kept c.requires.live slot_live c.loop-slot-test.true)) (small (c.loop-slot.slot-index + 1))))
    (omega arith) (omega arith) (omega arith) (omega arith)
    (c.in_some.ensures.full (same_refusal c.in_some.result c.from_residual-in_err-some-2.result _ c.in_err-some-2.was p full) w)

pub loop-slot-preserved : goal.loop-slot-preserved
loop-slot-preserved c =
    subst (λ (f : Function). Owns c.args.sets.now c.in_some.new.self ((c.in_ok-some-2.some.0, f) ∷ []))
    (landing_more _ _ c.args.allowed.0 c.args.lands.now c.loop-slot.slot-index _ c.loop-slot.invariant.kept c.requires.live (c.requires.all_live c.loop-slot.slot-index _ c.loop-slot-test.true) c.loop-slot-test.true)
    (answer_slot _ _ _ c.in_some.result _ c.in_ok-some-2.was
    (c.in_some.ensures.answer _ _ _ (both _ _ _ c.loop-slot.some _ _ c.meet-landing.result c.loop-slot.invariant
    (answered _ _ _ c.meet-landing.result c.meet-landing.ensures.added c.meet-landing.ensures.kept c.meet-landing.ensures.refused))))
