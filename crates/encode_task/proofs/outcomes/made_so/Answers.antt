-- One change more.
use Rattle.std.proofs.Common.{[], ◌∷◌, ◌+◌, ◌||◌, inl, subst, sym, arith}
use Rattle.dd_nodes.specs.Subfunctions.{Function}
use Rattle.dd_sets.specs.Frames.{Owns}
use Rattle.encode_task.proofs.ChangeLemmas.{change_more}
use Rattle.encode_task.proofs.PartLemmas.{answer_slot, rough_own, same_refusal, small_at}
use Rattle.encode_task.proofs.OutcomeSizes.{condition_small, first_small}
use Rattle.task_core.specs.Actions.{change_makes}
use Rattle.dd_sets.specs.Rooms.{Small}
use Rattle.dd_sets.proofs.SizeLemmas.{small_rough}
use Rattle.dd_sets.proofs.RoomSteps.{room_owned}
use Rattle.std.proofs.lemmas.Result.{err_from_is_err_and}
use Rattle.encode_task.proofs.outcomes.made_so.Goals as goal

pub loop-change-preserved : goal.loop-change-preserved
loop-change-preserved c =
    subst (λ (f : Function). Owns c.args.sets.now c.with_change.new.sets ((c.in_ok-some-2.some.0, f) ∷ []))
    (change_more c.args.positive c.args.f.0 _ c.loop-change.change-index c.change-item.result c.loop-change-test.true c.change-item.is)
    (answer_slot _ _ _ c.with_change.result _ c.in_ok-some-2.was (c.with_change.ensures.answer _ _ c.loop-change.invariant))

pub returns-in_err-some-2-clause-full : goal.returns-in_err-some-2-clause-full
returns-in_err-some-2-clause-full c full w small =
    let p = err_from_is_err_and c.from_residual-in_err-some-2.result c.from_residual-in_err-some-2.ensures.1 in
    let owns = c.loop-change.invariant in
    let items = c.deref-change-items.ensures.value in
    room_owned _ _ _ owns 205 206 0 0 0 (inl (first_small w _ c.args.outcome.now _ c.args.positive c.args.f.0 c.loop-change.change-index items c.requires.fluent small, tt)) (omega arith) (omega arith)
    (c.with_change.ensures.full (same_refusal c.with_change.result c.from_residual-in_err-some-2.result _ c.in_err-some-2.was p full) w
    (λ lit among. small_at w _ _ owns.kept.vars (condition_small w _ c.args.outcome.now _ c.loop-change.change-index c.change-item.result items c.loop-change-test.true c.change-item.is small lit among))
    (rough_own w (λ set values. set values || change_makes c.args.positive values c.args.f.0 c.change-item.result) _ _ c.loop-change.some _ owns
    (small_rough _ w _
    (subst (λ (f : Function). Small c.args.sets.now.vars w f) (sym (change_more c.args.positive c.args.f.0 _ c.loop-change.change-index c.change-item.result c.loop-change-test.true c.change-item.is))
    (first_small w _ c.args.outcome.now _ c.args.positive c.args.f.0 (c.loop-change.change-index + 1) items c.requires.fluent small)))))
