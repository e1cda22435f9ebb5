-- One alternative more.
use Rattle.std.proofs.Common.{◌≡◌, ◌+◌, inl, [], ◌∷◌, arith, sym, subst}
use Rattle.std.proofs.lemmas.Result.{err_from_is_err_and}
use Rattle.dd_nodes.specs.Subfunctions.{Function}
use Rattle.dd_sets.specs.Frames.{Owns}
use Rattle.dd_sets.proofs.RoomSteps.{room_join}
use Rattle.encode_task.proofs.EntryLemmas.{entry_more, alternative_within}
use Rattle.dd_sets.proofs.OwnedLemmas.{both}
use Rattle.encode_task.proofs.PartLemmas.{answer_slot, answer_refusal, same_refusal, small_at}
use Rattle.dd_ops.specs.Operations.{or_of}
use Rattle.dd_sets.specs.Rooms.{Small}
use Rattle.dd_sets.proofs.SizeLemmas.{small_rough}
use Rattle.encode_task.specs.WorkingSets.IsMadeOfEntry.{first_alternatives}
use Rattle.encode_task.proofs.EntrySizes.{alternative_small, image_small}
use Rattle.encode_task.proofs.initial.after_entry.Goals as goal

pub with_literals-image-requires-clause-fluents : goal.with_literals-image-requires-clause-fluents
with_literals-image-requires-clause-fluents c =
    alternative_within c.args.entry.now c.loop-alternative.alternative-index c.alternative-item.result _ c.args.sets.now.vars _ c.requires.fluents c.loop-alternative.invariant.kept.vars c.deref.ensures.value
    c.loop-alternative-test.true c.alternative-item.is

pub returns-in_err-after-2-clause-answer : goal.returns-in_err-after-2-clause-answer
returns-in_err-after-2-clause-answer c =
    let p = err_from_is_err_and c.from_residual-in_err-after-2.result c.from_residual-in_err-after-2.ensures.1 in
    answer_refusal _ _ _ _ c.in_some.result _ _ _ c.in_err-after-2.was p.1
    (c.in_some.ensures.answer _ _ _ (both _ _ _ c.loop-alternative.after _ _ c.with_literals-image.result c.loop-alternative.invariant c.with_literals-image.ensures.answer))

pub returns-in_err-after-2-clause-full : goal.returns-in_err-after-2-clause-full
returns-in_err-after-2-clause-full c full w wide small =
    let p = err_from_is_err_and c.from_residual-in_err-after-2.result c.from_residual-in_err-after-2.ensures.1 in
    let owns = c.loop-alternative.invariant in
    let vars : c.loop-alternative.sets.vars ≡ c.args.sets.now.vars = owns.kept.vars in
    let same = owns.kept.sets c.args.a.0 c.requires.live in
    let so_far = small _ (first_alternatives c.loop-alternative.alternative-index) in
    let alternative = alternative_small w _ _ _ _ c.args.entry.now c.loop-alternative.alternative-index c.alternative-item.result _ vars same c.deref.ensures.value c.loop-alternative-test.true c.alternative-item.is small in
    let one = image_small w _ _ _ (small_at w _ _ (sym vars) alternative) in
    room_join or_of _ _ _ c.loop-alternative.after _ _ c.with_literals-image.result 4 6 1 0 0 1 owns c.with_literals-image.ensures.answer
    (λ refused. c.with_literals-image.ensures.full refused w (omega arith) alternative) (inl (so_far, tt)) (inl (one, inl (so_far, tt)))
    (small_rough _ w _ (subst (λ (f : Function). Small c.args.sets.now.vars w f)
    (sym (entry_more _ _ c.args.entry.now c.loop-alternative.alternative-index c.alternative-item.result _ same c.deref.ensures.value c.loop-alternative-test.true c.alternative-item.is))
    (small _ (first_alternatives (c.loop-alternative.alternative-index + 1)))))
    (omega arith) (omega arith) (omega arith) (omega arith)
    (c.in_some.ensures.full (same_refusal c.in_some.result c.from_residual-in_err-after-2.result _ c.in_err-after-2.was p full) w)

pub loop-alternative-preserved : goal.loop-alternative-preserved
loop-alternative-preserved c =
    subst (λ (f : Function). Owns c.args.sets.now c.in_some.new.self ((c.in_ok-after-2.after.0, f) ∷ []))
    (entry_more _ _ c.args.entry.now c.loop-alternative.alternative-index c.alternative-item.result _ (c.loop-alternative.invariant.kept.sets c.args.a.0 c.requires.live) c.deref.ensures.value c.loop-alternative-test.true
    c.alternative-item.is)
    (answer_slot _ _ _ c.in_some.result _ c.in_ok-after-2.was
    (c.in_some.ensures.answer _ _ _ (both _ _ _ c.loop-alternative.after _ _ c.with_literals-image.result c.loop-alternative.invariant c.with_literals-image.ensures.answer)))
