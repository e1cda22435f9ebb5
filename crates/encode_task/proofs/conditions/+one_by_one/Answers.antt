-- A condition's set from those of its parts.
use Rattle.std.proofs.Common.{ℕ, ◌+◌, take, ◌∷◌, [], ◌∙◌, Err, sym, ap, subst}
use Rattle.std.proofs.lemmas.Result.{err_from_is_err_and}
use Rattle.dd_sets.specs.Frames.{Owns, OwnsAnswer}
use Rattle.dd_ops.specs.Operations.{not_of}
use Rattle.dd_sets.specs.LiveSets.{everything, nothing}
use Rattle.dd_sets.specs.Rooms.{NoRoom}
use Rattle.encode_task.specs.WorkingSets.{AreSmall, IsPartOf}
use Rattle.task_core.specs.Conditions.{depth, holds}
use Rattle.dd_nodes.specs.Subfunctions.{Function}
use Rattle.dd_sets.proofs.RoomSteps.{room_for}
use Rattle.dd_sets.proofs.SizeLemmas.{small_rough}
use Rattle.dd_sets.proofs.OwnedLemmas.{answered, both}
use Rattle.encode_task.proofs.PartLemmas.{all_more, some_more, all_parts, some_parts, not_part, all_hold, some_hold, rest_below, all_begin_below, some_begin_below, answer_slot, answer_refusal, fluent_part, room_all, room_some, room_not, room_not_part}
use Rattle.encode_task.proofs.conditions.+one_by_one.Goals as goal

pub loop-part-preserved : goal.loop-part-preserved
loop-part-preserved t c =
    let owns : Owns c.args.sets.now c.in_both.new.self ((c.in_ok-all-in-All-2.all.0, all_hold (take (c.loop-part.part-index + 1) c.deref-part-items.result.now)) ∷ []) =
    subst (λ (f : Function). Owns c.args.sets.now c.in_both.new.self ((c.in_ok-all-in-All-2.all.0, f) ∷ [])) (all_more _ c.loop-part.part-index c.part-item.result c.loop-part-test.true c.part-item.is)
    (answer_slot _ _ _ c.in_both.result _ c.in_ok-all-in-All-2.was
    (c.in_both.ensures.answer _ _ _ (both _ _ _ c.loop-part.all _ _ c.one_by_one-answer.result c.loop-part.invariant.owns c.one_by_one-answer.ensures.answer))) in
    record {
      owns = owns;
      below = rest_below c.deref-part-items.result.now c.loop-part.part-index _ _ (owns.kept.vars ∙ sym c.loop-part.invariant.owns.kept.vars) c.loop-part-test.true c.loop-part.invariant.below;
    }

pub returns-in_err-all-in-All-2-clause-answer : goal.returns-in_err-all-in-All-2-clause-answer
returns-in_err-all-in-All-2-clause-answer t c =
    let p = err_from_is_err_and c.from_residual-in_err-all-in-All-2.result c.from_residual-in_err-all-in-All-2.ensures.1 in
    answer_refusal _ _ _ _ c.in_both.result _ _ _ c.in_err-all-in-All-2.was p.1
    (c.in_both.ensures.answer _ _ _ (both _ _ _ c.loop-part.all _ _ c.one_by_one-answer.result c.loop-part.invariant.owns c.one_by_one-answer.ensures.answer))

pub returns-in_err-all-in-All-2-clause-full : goal.returns-in_err-all-in-All-2-clause-full
returns-in_err-all-in-All-2-clause-full t c full w small =
    let p = err_from_is_err_and c.from_residual-in_err-all-in-All-2.result c.from_residual-in_err-all-in-All-2.ensures.1 in
    room_all w c.args.cond.now _ _ c.loop-part.part-index c.part-item.result _ _ _ c.loop-part.all c.one_by_one-answer.result c.in-All.is c.deref-part-items.ensures.value c.loop-part-test.true c.part-item.is small
    c.loop-part.invariant.owns c.one_by_one-answer.ensures.answer c.one_by_one-answer.ensures.full (c.in_both.ensures.full (c.in_err-all-in-All-2.was ∙ ap Err (sym p.2) ∙ sym p.1 ∙ full))

pub returns-after-loop-part-clause-answer : goal.returns-after-loop-part-clause-answer
returns-after-loop-part-clause-answer t c =
    subst (λ (f : Function). Owns c.args.sets.now c.loop-part.sets ((c.loop-part.all.0, f) ∷ []))
    (all_parts c.args.cond.now _ _ c.loop-part.part-index c.in-All.is c.deref-part-items.ensures.value c.loop-part-test.false) c.loop-part.invariant.owns

pub loop-part-2-preserved : goal.loop-part-2-preserved
loop-part-2-preserved t c =
    let owns : Owns c.args.sets.now c.in_some.new.self ((c.in_ok-any-in-Any-2.any.0, some_hold (take (c.loop-part-2.part-index + 1) c.deref-part-items-in-Any.result.now)) ∷ []) =
    subst (λ (f : Function). Owns c.args.sets.now c.in_some.new.self ((c.in_ok-any-in-Any-2.any.0, f) ∷ [])) (some_more _ c.loop-part-2.part-index c.part-item-in-loop-part-2.result c.loop-part-2-test.true c.part-item-in-loop-part-2.is)
    (answer_slot _ _ _ c.in_some.result _ c.in_ok-any-in-Any-2.was
    (c.in_some.ensures.answer _ _ _ (both _ _ _ c.loop-part-2.any _ _ c.one_by_one-answer-in-loop-part-2.result c.loop-part-2.invariant.owns c.one_by_one-answer-in-loop-part-2.ensures.answer))) in
    record {
      owns = owns;
      below = rest_below c.deref-part-items-in-Any.result.now c.loop-part-2.part-index _ _ (owns.kept.vars ∙ sym c.loop-part-2.invariant.owns.kept.vars) c.loop-part-2-test.true c.loop-part-2.invariant.below;
    }

pub returns-in_err-any-in-Any-2-clause-answer : goal.returns-in_err-any-in-Any-2-clause-answer
returns-in_err-any-in-Any-2-clause-answer t c =
    let p = err_from_is_err_and c.from_residual-in_err-any-in-Any-2.result c.from_residual-in_err-any-in-Any-2.ensures.1 in
    answer_refusal _ _ _ _ c.in_some.result _ _ _ c.in_err-any-in-Any-2.was p.1
    (c.in_some.ensures.answer _ _ _ (both _ _ _ c.loop-part-2.any _ _ c.one_by_one-answer-in-loop-part-2.result c.loop-part-2.invariant.owns c.one_by_one-answer-in-loop-part-2.ensures.answer))

pub returns-in_err-any-in-Any-2-clause-full : goal.returns-in_err-any-in-Any-2-clause-full
returns-in_err-any-in-Any-2-clause-full t c full w small =
    let p = err_from_is_err_and c.from_residual-in_err-any-in-Any-2.result c.from_residual-in_err-any-in-Any-2.ensures.1 in
    room_some w c.args.cond.now _ _ c.loop-part-2.part-index c.part-item-in-loop-part-2.result _ _ _ c.loop-part-2.any c.one_by_one-answer-in-loop-part-2.result c.in-Any.is c.deref-part-items-in-Any.ensures.value c.loop-part-2-test.true
    c.part-item-in-loop-part-2.is small c.loop-part-2.invariant.owns c.one_by_one-answer-in-loop-part-2.ensures.answer c.one_by_one-answer-in-loop-part-2.ensures.full
    (c.in_some.ensures.full (c.in_err-any-in-Any-2.was ∙ ap Err (sym p.2) ∙ sym p.1 ∙ full))

pub returns-after-loop-part-2-clause-answer : goal.returns-after-loop-part-2-clause-answer
returns-after-loop-part-2-clause-answer t c =
    subst (λ (f : Function). Owns c.args.sets.now c.loop-part-2.sets ((c.loop-part-2.any.0, f) ∷ []))
    (some_parts c.args.cond.now _ _ c.loop-part-2.part-index c.in-Any.is c.deref-part-items-in-Any.ensures.value c.loop-part-2-test.false) c.loop-part-2.invariant.owns

pub returns-in-Is-clause-full : goal.returns-in-Is-clause-full
returns-in-Is-clause-full t c full w small =
    room_for _ _ _ (c.of_fluent.ensures.full full) c.of_fluent.ensures.kept.vars c.of_fluent.ensures.kept.limit _ 0 (small_rough _ w _ (small _ (fluent_part c.args.cond.now c.in-Is.f c.in-Is.is)))

pub returns-in_ok-inside-in-Not-clause-answer : goal.returns-in_ok-inside-in-Not-clause-answer
returns-in_ok-inside-in-Not-clause-answer t c =
    subst (λ (f : Function). OwnsAnswer c.args.sets.now c.outside.new.self f c.outside.result)
    (ap (λ part. not_of (holds part)) c.deref.ensures ∙ not_part c.args.cond.now c.in-Not.part c.in-Not.is)
    (c.outside.ensures.answer _ _ (answer_slot _ _ _ c.one_by_one.result _ c.in_ok-inside-in-Not.was c.one_by_one.ensures.answer))

pub returns-in_ok-inside-in-Not-clause-full : goal.returns-in_ok-inside-in-Not-clause-full
returns-in_ok-inside-in-Not-clause-full t c full w small =
    room_not w c.args.cond.now c.in-Not.part _ _ c.in_ok-inside-in-Not.inside c.in-Not.is small
    (subst (λ part. Owns c.args.sets.now c.one_by_one.new.sets ((c.in_ok-inside-in-Not.inside.0, holds part) ∷ [])) c.deref.ensures (answer_slot _ _ _ c.one_by_one.result _ c.in_ok-inside-in-Not.was c.one_by_one.ensures.answer))
    (c.outside.ensures.full full)

pub returns-in_err-inside-in-Not-clause-full : goal.returns-in_err-inside-in-Not-clause-full
returns-in_err-inside-in-Not-clause-full t c full w small =
    let p = err_from_is_err_and c.from_residual.result c.from_residual.ensures.1 in
    room_not_part w c.args.cond.now c.in-Not.part _ c.in-Not.is small
    (subst (λ part. (w : ℕ) → AreSmall c.args.sets.now.vars w (IsPartOf part) → NoRoom w (depth part + 4) 0 c.args.sets.now c.one_by_one.new.sets) c.deref.ensures (c.one_by_one.ensures.full (c.in_err-inside-in-Not.was ∙ ap Err (sym p.2) ∙ sym p.1 ∙ full)))

pub loop-part-init : goal.loop-part-init
loop-part-init t c = record {
  owns = answer_slot _ _ everything c.whole-in-All.result _ c.in_ok-all-in-All.was (answered _ _ _ c.whole-in-All.result c.whole-in-All.ensures.added c.whole-in-All.ensures.kept c.whole-in-All.ensures.refused);
  below = all_begin_below c.args.cond.now _ c.deref-part-items.result.now _ _ c.in-All.is c.deref-part-items.ensures.value c.whole-in-All.ensures.kept.vars c.requires;
}

pub loop-part-2-init : goal.loop-part-2-init
loop-part-2-init t c = record {
  owns = answer_slot _ _ nothing c.none-in-Any.result _ c.in_ok-any-in-Any.was (answered _ _ _ c.none-in-Any.result c.none-in-Any.ensures.added c.none-in-Any.ensures.kept c.none-in-Any.ensures.refused);
  below = some_begin_below c.args.cond.now _ c.deref-part-items-in-Any.result.now _ _ c.in-Any.is c.deref-part-items-in-Any.ensures.value c.none-in-Any.ensures.kept.vars c.requires;
}
