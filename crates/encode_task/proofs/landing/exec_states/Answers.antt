-- What is allowed, and of it what some outcome leads to a state.
use Rattle.std.proofs.Common.{inl, [], ◌∷◌, arith, sym, subst, ◌∙◌}
use Rattle.std.proofs.lemmas.Bool.{eqb-true}
use Rattle.dd_nodes.specs.Subfunctions.{Function}
use Rattle.dd_sets.specs.Frames.{Owns, OwnsAnswer}
use Rattle.dd_sets.proofs.OwnedLemmas.{handed, own_set}
use Rattle.dd_sets.proofs.RoomSteps.{room_owned, room_released, room_wider}
use Rattle.dd_sets.proofs.SizeLemmas.{small_rough}
use Rattle.std.proofs.lemmas.Result.{err_from_is_err_and}
use Rattle.encode_task.specs.WorkingSets.IsMadeForAction.{allowed as allowed_states}
use Rattle.encode_task.proofs.ActionSizes.{first_slots_small, precondition_small, slot_rough}
use Rattle.encode_task.proofs.LandsLemmas.{each_lands, exec_always, exec_lands, lands_live, some_slots}
use Rattle.encode_task.proofs.PartLemmas.{answer_slot, same_refusal}
use Rattle.encode_task.proofs.landing.exec_states.Goals as goal

pub returns-then-is_empty-clause-answer : goal.returns-then-is_empty-clause-answer
returns-then-is_empty-clause-answer c =
    subst (λ (f : Function). Owns c.args.sets.now c.states_where.new.sets ((c.in_ok-allowed.allowed.0, f) ∷ []))
    (exec_always _ _ c.args.invariant.now c.args.action.now c.args.lands.now c.requires.within c.requires.lands (eqb-true _ _ (sym c.is_empty.ensures ∙ c.if-is_empty.true)))
    (answer_slot _ _ _ c.states_where.result _ c.in_ok-allowed.was c.states_where.ensures.answer)

pub some_landing-exec-requires-clause-all_live : goal.some_landing-exec-requires-clause-all_live
some_landing-exec-requires-clause-all_live c k d within =
    let allowed = answer_slot _ _ _ c.states_where.result _ c.in_ok-allowed.was c.states_where.ensures.answer in
    lands_live _ _ c.args.invariant.now c.args.action.now.outcomes.items c.args.lands.now allowed.kept c.requires.lands k d within

pub returns-clause-answer : goal.returns-clause-answer
returns-clause-answer c =
    let allowed = answer_slot _ _ _ c.states_where.result _ c.in_ok-allowed.was c.states_where.ensures.answer in
    subst (λ (f : Function). OwnsAnswer c.args.sets.now c.release.new.self f c.some_landing-exec.result)
    (exec_lands _ _ c.args.invariant.now c.args.action.now c.args.lands.now _ allowed.kept c.requires.lands (some_slots c.args.lands.now (sym c.is_empty.ensures ∙ c.if-is_empty.false)) (own_set _ _ _ _ [] [] allowed))
    (handed _ _ _ _ _ _ _ c.some_landing-exec.result allowed c.some_landing-exec.ensures.answer c.release.ensures.released)

pub returns-clause-full : goal.returns-clause-full
returns-clause-full c full w small =
    let allowed = answer_slot _ _ _ c.states_where.result _ c.in_ok-allowed.was c.states_where.ensures.answer in
    let each = each_lands _ c.args.invariant.now c.args.action.now.outcomes.items c.args.lands.now c.requires.lands (some_slots c.args.lands.now (sym c.is_empty.ensures ∙ c.if-is_empty.false)) in
    room_owned _ _ _ allowed 2 204 1 0 1 (inl (small _ allowed_states, tt)) (omega arith) (omega arith)
    (room_released _ (c.some_landing-exec.ensures.full full w
    (λ j. first_slots_small w _ _ c.args.invariant.now c.args.action.now c.args.lands.now c.in_ok-allowed.allowed j allowed each small)
    (λ slot among. slot_rough w _ _ c.args.invariant.now c.args.action.now c.args.lands.now c.in_ok-allowed.allowed slot allowed each among small)) c.release.ensures.released)

pub returns-in_err-allowed-clause-full : goal.returns-in_err-allowed-clause-full
returns-in_err-allowed-clause-full c full w small =
    let p = err_from_is_err_and c.from_residual.result c.from_residual.ensures.1 in
    room_wider _ 204 204 0 1 (omega arith) (omega arith)
    (c.states_where.ensures.full (same_refusal c.states_where.result c.from_residual.result _ c.in_err-allowed.was p full) w (precondition_small w _ c.args.invariant.now c.args.action.now small) (small_rough _ w _ (small _ allowed_states)))
