-- What is added, and what is true and not deleted.
use Rattle.std.proofs.Common.{◌≡◌, ◌∙◌, inl, inr, true, false, refl, sym, arith, ap, subst}
use Rattle.std.proofs.lemmas.Result.{err_from_is_err_and}
use Rattle.dd_nodes.specs.Subfunctions.{Function}
use Rattle.dd_sets.specs.Frames.{OwnsAnswer}
use Rattle.dd_sets.proofs.RoomSteps.{room_for, room_join}
use Rattle.task_core.specs.Actions.{outcome_within}
use Rattle.dd_ops.specs.Operations.{minus_of, or_of}
use Rattle.dd_sets.specs.Rooms.{Small}
use Rattle.dd_sets.proofs.OperationSizes.{difference_rough, variable_small}
use Rattle.dd_sets.proofs.SizeLemmas.{small_rough}
use Rattle.encode_task.proofs.OutcomeSizes.{all_changes_small, next_small, outcome_at}
use Rattle.encode_task.proofs.ChangeLemmas.{next_from}
use Rattle.dd_sets.proofs.OwnedLemmas.{answer_kept, both}
use Rattle.encode_task.proofs.PartLemmas.{answer_ready, answer_slot, answer_refusal, call_slot, same_refusal}
use Rattle.encode_task.proofs.outcomes.next_value.Goals as goal

pub returns-in_err-value-clause-full : goal.returns-in_err-value-clause-full
returns-in_err-value-clause-full c full w wide small =
    let p = err_from_is_err_and c.from_residual.result c.from_residual.ensures.1 in
    room_for _ _ _ (c.of_fluent.ensures.full (same_refusal c.of_fluent.result c.from_residual.result _ c.in_err-value.was p full)) c.of_fluent.ensures.kept.vars c.of_fluent.ensures.kept.limit 208 1
    (small_rough _ w _ (variable_small _ w c.args.f.0 (omega (arith, c.requires.fluent))))

pub returns-in_err-kept-clause-answer : goal.returns-in_err-kept-clause-answer
returns-in_err-kept-clause-answer c =
    let p = err_from_is_err_and c.from_residual-in_err-kept.result c.from_residual-in_err-kept.ensures.1 in
    let value = call_slot _ _ _ c.of_fluent.result _ c.in_ok-value.was c.of_fluent.ensures.added c.of_fluent.ensures.kept c.of_fluent.ensures.refused in
    answer_refusal _ _ _ _ c.without.result _ _ _ c.in_err-kept.was p.1
    (c.without.ensures.answer _ _ _ (both _ _ _ c.in_ok-value.value _ _ c.made_so-deleted.result value c.made_so-deleted.ensures.answer))

pub returns-in_err-kept-clause-full : goal.returns-in_err-kept-clause-full
returns-in_err-kept-clause-full c full w wide small =
    let p = err_from_is_err_and c.from_residual-in_err-kept.result c.from_residual-in_err-kept.ensures.1 in
    let value = call_slot _ _ _ c.of_fluent.result _ c.in_ok-value.was c.of_fluent.ensures.added c.of_fluent.ensures.kept c.of_fluent.ensures.refused in
    let variable = variable_small c.args.sets.now.vars w c.args.f.0 (omega (arith, c.requires.fluent)) in
    let deleted = all_changes_small w _ c.args.outcome.now false c.args.f.0 c.requires.fluent small in
    room_join minus_of _ _ _ c.in_ok-value.value _ _ c.made_so-deleted.result 206 208 0 0 0 1 value c.made_so-deleted.ensures.answer
    (λ refused. c.made_so-deleted.ensures.full refused w (outcome_at w _ _ c.args.outcome.now value.kept.vars small)) (inl (variable, tt)) (inl (deleted, inl (variable, tt)))
    (difference_rough _ w _ _ variable deleted) (omega arith) (omega arith) (omega arith) (omega arith)
    (c.without.ensures.full (same_refusal c.without.result c.from_residual-in_err-kept.result _ c.in_err-kept.was p full) w)

pub made_so-added-requires-clause-fluents : goal.made_so-added-requires-clause-fluents
made_so-added-requires-clause-fluents c =
    let value = call_slot _ _ _ c.of_fluent.result _ c.in_ok-value.was c.of_fluent.ensures.added c.of_fluent.ensures.kept c.of_fluent.ensures.refused in
    let kept = c.without.ensures.answer _ _ _ (both _ _ _ c.in_ok-value.value _ _ c.made_so-deleted.result value c.made_so-deleted.ensures.answer) in
    ap (λ n. outcome_within n c.args.outcome.now) (answer_kept _ _ _ c.without.result kept).vars ∙ c.requires.fluents

pub made_so-added-requires-clause-fluent : goal.made_so-added-requires-clause-fluent
made_so-added-requires-clause-fluent c =
    let value = call_slot _ _ _ c.of_fluent.result _ c.in_ok-value.was c.of_fluent.ensures.added c.of_fluent.ensures.kept c.of_fluent.ensures.refused in
    let kept = c.without.ensures.answer _ _ _ (both _ _ _ c.in_ok-value.value _ _ c.made_so-deleted.result value c.made_so-deleted.ensures.answer) in
    let same : c.without.new.self.vars ≡ c.args.sets.now.vars = (answer_kept _ _ _ c.without.result kept).vars in
    omega (arith, c.requires.fluent)

pub in_some-requires : goal.in_some-requires
in_some-requires c =
    let value = call_slot _ _ _ c.of_fluent.result _ c.in_ok-value.was c.of_fluent.ensures.added c.of_fluent.ensures.kept c.of_fluent.ensures.refused in
    let kept = answer_slot _ _ _ c.without.result _ c.in_ok-kept.was (c.without.ensures.answer _ _ _ (both _ _ _ c.in_ok-value.value _ _ c.made_so-deleted.result value c.made_so-deleted.ensures.answer)) in
    answer_ready _ _ _ c.in_ok-kept.kept _ _ c.made_so-added.result kept c.made_so-added.ensures.answer

pub returns-clause-answer : goal.returns-clause-answer
returns-clause-answer c =
    let value = call_slot _ _ _ c.of_fluent.result _ c.in_ok-value.was c.of_fluent.ensures.added c.of_fluent.ensures.kept c.of_fluent.ensures.refused in
    let kept = answer_slot _ _ _ c.without.result _ c.in_ok-kept.was (c.without.ensures.answer _ _ _ (both _ _ _ c.in_ok-value.value _ _ c.made_so-deleted.result value c.made_so-deleted.ensures.answer)) in
    subst (λ (f : Function). OwnsAnswer c.args.sets.now c.in_some.new.self f c.in_some.result) (next_from c.args.outcome.now c.args.f.0)
    (c.in_some.ensures.answer _ _ _ (both _ _ _ c.in_ok-kept.kept _ _ c.made_so-added.result kept c.made_so-added.ensures.answer))

pub returns-clause-full : goal.returns-clause-full
returns-clause-full c full w wide small =
    let value = call_slot _ _ _ c.of_fluent.result _ c.in_ok-value.was c.of_fluent.ensures.added c.of_fluent.ensures.kept c.of_fluent.ensures.refused in
    let kept = answer_slot _ _ _ c.without.result _ c.in_ok-kept.was (c.without.ensures.answer _ _ _ (both _ _ _ c.in_ok-value.value _ _ c.made_so-deleted.result value c.made_so-deleted.ensures.answer)) in
    let variable = variable_small c.args.sets.now.vars w c.args.f.0 (omega (arith, c.requires.fluent)) in
    let deleted = all_changes_small w _ c.args.outcome.now false c.args.f.0 c.requires.fluent small in
    let added = all_changes_small w _ c.args.outcome.now true c.args.f.0 c.requires.fluent small in
    let rest = difference_rough c.args.sets.now.vars w _ _ variable deleted in
    room_join or_of _ _ _ c.in_ok-kept.kept _ _ c.made_so-added.result 206 208 0 1 1 1 kept c.made_so-added.ensures.answer
    (λ refused. c.made_so-added.ensures.full refused w (outcome_at w _ _ c.args.outcome.now kept.kept.vars small)) (inr (rest, 0, refl, tt)) (inl (added, inr (rest, 0, refl, tt)))
    (small_rough _ w _ (subst (λ (f : Function). Small c.args.sets.now.vars w f) (sym (next_from c.args.outcome.now c.args.f.0)) (next_small w _ c.args.outcome.now c.args.f.0 c.requires.fluent small)))
    (omega arith) (omega arith) (omega arith) (omega arith) (c.in_some.ensures.full full w)
