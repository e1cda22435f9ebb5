-- One fluent earlier.
use Rattle.std.proofs.Common.{◌≡◌, [], ◌∷◌, ◌-◌, ◌∙◌, inl, sym, arith, ap, subst}
use Rattle.std.proofs.lemmas.Result.{err_from_is_err_and}
use Rattle.dd_nodes.specs.Subfunctions.{Function}
use Rattle.dd_ops.specs.Operations.{and_of}
use Rattle.dd_sets.specs.Frames.{Owns}
use Rattle.dd_sets.proofs.RoomSteps.{room_owned, room_released}
use Rattle.encode_task.specs.Images.{has_value}
use Rattle.dd_sets.proofs.OwnedLemmas.{handed, own_set}
use Rattle.encode_task.proofs.PartLemmas.{answer_slot, rough_own, same_refusal}
use Rattle.encode_task.proofs.StateSizes.{last_values_small}
use Rattle.dd_sets.specs.Rooms.{Small}
use Rattle.dd_sets.proofs.SizeLemmas.{small_rough}
use Rattle.encode_task.proofs.StateLemmas.{one_earlier, same_from, whole_state}
use Rattle.encode_task.proofs.initial.one_state.Goals as goal

pub returns-in_err-all-2-clause-full : goal.returns-in_err-all-2-clause-full
returns-in_err-all-2-clause-full c full w wide small =
    let p = err_from_is_err_and c.from_residual-in_err-all-2.result c.from_residual-in_err-all-2.ensures.1 in
    let owns = c.loop-f.invariant in
    let vars : c.loop-f.sets.vars ≡ c.args.sets.now.vars = owns.kept.vars in
    let rest : c.args.fluents ≡ c.args.fluents - 0 = omega arith in
    let whole : Small c.args.sets.now.vars w (same_from c.args.state.now 0 (c.args.fluents - 0)) = subst (λ (f : Function). Small c.args.sets.now.vars w f) (sym (whole_state c.args.state.now c.args.fluents) ∙ ap (same_from c.args.state.now 0) rest) small in
    room_owned _ _ _ owns 1 4 0 0 0 (inl (last_values_small w _ c.args.state.now c.args.fluents c.loop-f.f c.requires.within (omega arith) whole, tt)) (omega arith) (omega arith)
    (room_released _ (c.where_value-next.ensures.full (same_refusal c.where_value-next.result c.from_residual-in_err-all-2.result _ c.in_err-all-2.was p full) w (omega arith)
    (rough_own w (λ set. and_of set (has_value (c.loop-f.f - 1) c.get.result)) _ _ c.loop-f.all _ owns
    (small_rough _ w _ (subst (λ (f : Function). Small c.args.sets.now.vars w f) (sym (one_earlier c.args.state.now c.args.fluents (c.loop-f.f - 1) c.loop-f.f c.get.result (omega arith) (omega arith) c.get.ensures.value))
    (last_values_small w _ c.args.state.now c.args.fluents (c.loop-f.f - 1) c.requires.within (omega arith) whole))))) c.release.ensures.released)

pub loop-f-preserved : goal.loop-f-preserved
loop-f-preserved c =
    subst (λ (f : Function). Owns c.args.sets.now c.release.new.self ((c.in_ok-all-2.all.0, f) ∷ []))
    (ap (λ (set : Function). and_of set (has_value (c.loop-f.f - 1) c.get.result)) (own_set _ _ _ _ [] [] c.loop-f.invariant)
    ∙ one_earlier c.args.state.now c.args.fluents (c.loop-f.f - 1) c.loop-f.f c.get.result (omega arith) (omega arith) c.get.ensures.value)
    (answer_slot _ _ _ c.where_value-next.result _ c.in_ok-all-2.was (handed _ _ _ _ _ _ _ c.where_value-next.result c.loop-f.invariant c.where_value-next.ensures.answer c.release.ensures.released))

pub returns-clause-answer : goal.returns-clause-answer
returns-clause-answer c =
    let first : c.loop-f.f ≡ 0 = omega arith in
    let rest : c.args.fluents - 0 ≡ c.args.fluents = omega arith in
    subst (λ (f : Function). Owns c.args.sets.now c.loop-f.sets ((c.loop-f.all.0, f) ∷ []))
    (ap (λ n. same_from c.args.state.now n (c.args.fluents - n)) first ∙ ap (same_from c.args.state.now 0) rest ∙ whole_state c.args.state.now c.args.fluents) c.loop-f.invariant
