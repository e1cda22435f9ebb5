-- One literal more.
use Rattle.std.proofs.Common.{◌≡◌, ◌+◌, inl, List, [], ◌∷◌, ◌∙◌, ℕ, false, get_or, arith, ap, subst, sym}
use Rattle.std.proofs.lemmas.List.Sums.{fold_more}
use Rattle.std.proofs.lemmas.Result.{err_from_is_err_and}
use Rattle.dd_nodes.specs.Subfunctions.{Function}
use Rattle.dd_sets.specs.Frames.{Owns}
use Rattle.dd_sets.specs.LiveSets.{set_of}
use Rattle.dd_sets.proofs.OwnedLemmas.{handed, own_set}
use Rattle.dd_sets.proofs.RoomSteps.{room_owned, room_released}
use Rattle.task_core.specs.declared.literals.Lit.{Lit}
use Rattle.encode_task.specs.Images.{assigned_literal}
use Rattle.encode_task.proofs.PartLemmas.{answer_slot, rough_own, same_refusal, small_own}
use Rattle.dd_sets.specs.Rooms.{Small}
use Rattle.dd_sets.proofs.SizeLemmas.{small_rough}
use Rattle.encode_task.proofs.initial.with_signed.Goals as goal

-- the literal at a place
lit_at : List Lit → ℕ → Lit
lit_at lits i = get_or lits i (record { fluent = record { 0 = 0 }; positive = false })

pub returns-in_err-states-2-clause-full : goal.returns-in_err-states-2-clause-full
unfolding lit_at
returns-in_err-states-2-clause-full c full w wide small =
    let p = err_from_is_err_and c.from_residual-in_err-states-2.result c.from_residual-in_err-states-2.ensures.1 in
    let owns = c.loop-lit.invariant in
    let vars : c.loop-lit.sets.vars ≡ c.args.sets.now.vars = owns.kept.vars in
    room_owned _ _ _ owns 2 3 1 0 1 (inl (small c.loop-lit.lit-index, tt)) (omega arith) (omega arith)
    (room_released _ (c.with_literal-next.ensures.full (same_refusal c.with_literal-next.result c.from_residual-in_err-states-2.result _ c.in_err-states-2.was p full) w (omega arith)
    (small_own w (λ set. set) _ _ c.loop-lit.states _ owns (small c.loop-lit.lit-index))
    (rough_own w (λ set. assigned_literal c.args.positive set (lit_at c.args.lits.now c.loop-lit.lit-index)) _ _ c.loop-lit.states _ owns
    (small_rough _ w _ (subst (λ (f : Function). Small c.args.sets.now.vars w f)
    (fold_more (assigned_literal c.args.positive) (set_of c.args.sets.now c.args.a.0) c.args.lits.now c.loop-lit.lit-index (record { fluent = record { 0 = 0 }; positive = false }) c.loop-lit-test.true)
    (small (c.loop-lit.lit-index + 1)))))) c.release.ensures.released)

pub loop-lit-preserved : goal.loop-lit-preserved
unfolding lit_at
loop-lit-preserved c =
    subst (λ (f : Function). Owns c.args.sets.now c.release.new.self ((c.in_ok-states-2.states.0, f) ∷ []))
    (ap (λ (set : Function). assigned_literal c.args.positive set (lit_at c.args.lits.now c.loop-lit.lit-index)) (own_set _ _ _ _ [] [] c.loop-lit.invariant)
    ∙ sym (fold_more (assigned_literal c.args.positive) (set_of c.args.sets.now c.args.a.0) c.args.lits.now c.loop-lit.lit-index (record { fluent = record { 0 = 0 }; positive = false }) c.loop-lit-test.true))
    (answer_slot _ _ _ c.with_literal-next.result _ c.in_ok-states-2.was (handed _ _ _ _ _ _ _ c.with_literal-next.result c.loop-lit.invariant c.with_literal-next.ensures.answer c.release.ensures.released))
