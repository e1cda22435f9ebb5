-- A refusal shows that there was no room.
use Rattle.std.proofs.Common.{inl, subst, arith}
use Rattle.std.proofs.lemmas.Result.{err_from_is_err_and}
use Rattle.dd_sets.proofs.RoomSteps.{room_for, room_owned, room_released}
use Rattle.encode_task.proofs.PartLemmas.{call_slot, rough_beside, same_refusal}
use Rattle.encode_task.proofs.EntrySizes.{left_is, met_is}
use Rattle.encode_task.specs.Images.{has_value}
use Rattle.dd_ops.specs.Operations.{and_of, minus_of}
use Rattle.dd_nodes.specs.Subfunctions.{Function}
use Rattle.dd_sets.specs.LiveSets.{set_of}
use Rattle.dd_sets.specs.Rooms.{Rough}
use Rattle.dd_sets.proofs.OperationSizes.{variable_small}
use Rattle.dd_sets.proofs.SizeLemmas.{small_rough}
use Rattle.encode_task.proofs.initial.where_value.Goals as goal

pub returns-in_err-is_true-clause-full : goal.returns-in_err-is_true-clause-full
returns-in_err-is_true-clause-full c full w wide rough =
    let p = err_from_is_err_and c.from_residual.result c.from_residual.ensures.1 in
    room_for _ _ _ (c.of_fluent.ensures.full (same_refusal c.of_fluent.result c.from_residual.result _ c.in_err-is_true.was p full)) c.of_fluent.ensures.kept.vars c.of_fluent.ensures.kept.limit 1 0
    (small_rough _ w _ (variable_small _ w c.args.f.0 (omega (arith, c.requires.fluent))))

pub returns-then-value-clause-full : goal.returns-then-value-clause-full
returns-then-value-clause-full c full w wide rough =
    let owns = call_slot _ _ _ c.of_fluent.result _ c.in_ok-is_true.was c.of_fluent.ensures.added c.of_fluent.ensures.kept c.of_fluent.ensures.refused in
    room_owned _ _ _ owns 0 1 0 0 0 (inl (variable_small _ w c.args.f.0 (omega (arith, c.requires.fluent)), tt)) (omega arith) (omega arith)
    (room_released _ (room_for _ _ _ (c.meet-met.ensures.full full) c.meet-met.ensures.kept.vars c.meet-met.ensures.kept.limit 0 0
    (rough_beside w and_of _ _ c.args.a c.in_ok-is_true.is_true _ c.requires.live owns (subst (λ (f : Function). Rough c.args.sets.now.vars w f) (met_is (set_of c.args.sets.now c.args.a.0) c.args.f.0)
    (subst (λ b. Rough c.args.sets.now.vars w (and_of (set_of c.args.sets.now c.args.a.0) (has_value c.args.f.0 b))) c.if-value.true rough)))) c.release.ensures.released)

pub returns-else-value-clause-full : goal.returns-else-value-clause-full
returns-else-value-clause-full c full w wide rough =
    let owns = call_slot _ _ _ c.of_fluent.result _ c.in_ok-is_true.was c.of_fluent.ensures.added c.of_fluent.ensures.kept c.of_fluent.ensures.refused in
    room_owned _ _ _ owns 0 1 0 0 0 (inl (variable_small _ w c.args.f.0 (omega (arith, c.requires.fluent)), tt)) (omega arith) (omega arith)
    (room_released _ (room_for _ _ _ (c.minus-left.ensures.full full) c.minus-left.ensures.kept.vars c.minus-left.ensures.kept.limit 0 0
    (rough_beside w minus_of _ _ c.args.a c.in_ok-is_true.is_true _ c.requires.live owns (subst (λ (f : Function). Rough c.args.sets.now.vars w f) (left_is (set_of c.args.sets.now c.args.a.0) c.args.f.0)
    (subst (λ b. Rough c.args.sets.now.vars w (and_of (set_of c.args.sets.now c.args.a.0) (has_value c.args.f.0 b))) c.if-value.false rough)))) c.release-else-value.ensures.released)
