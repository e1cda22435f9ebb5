-- A slot where an outcome leaves the fluent alone.
use Rattle.std.proofs.Common.{arith, refl, sym, ◌∙◌}
use Rattle.std.proofs.lemmas.Result.{err_from_is_err_and}
use Rattle.dd_sets.proofs.RoomSteps.{room_for}
use Rattle.dd_sets.proofs.OperationSizes.{variable_small}
use Rattle.dd_sets.proofs.SizeLemmas.{small_rough}
use Rattle.encode_task.proofs.CountLemmas.{actions_leave}
use Rattle.encode_task.proofs.PartLemmas.{call_slot, same_refusal_of}
use Rattle.encode_task.proofs.left_alone.share_fluent.Goals as goal

pub returns-in_err-of_fluent-clause-full : goal.returns-in_err-of_fluent-clause-full
returns-in_err-of_fluent-clause-full c full w wide =
    let p = err_from_is_err_and c.from_residual.result c.from_residual.ensures.1 in
    room_for _ _ _ (c.of_fluent.ensures.full (same_refusal_of c.of_fluent.result c.from_residual.result _ c.in_err-of_fluent.was p full)) c.of_fluent.ensures.kept.vars c.of_fluent.ensures.kept.limit 0 0
    (small_rough _ w _ (variable_small _ w c.args.f.0 (omega (arith, c.requires))))

pub returns-in_ok-of_fluent-clause-answer : goal.returns-in_ok-of_fluent-clause-answer
returns-in_ok-of_fluent-clause-answer c = (
  sym (actions_leave c.args.f.0 c.args.actions.now) ∙ sym c.some_leaves.ensures ∙ c.if-some_leaves.true,
  call_slot _ _ _ c.of_fluent.result _ c.in_ok-of_fluent.was c.of_fluent.ensures.added c.of_fluent.ensures.kept c.of_fluent.ensures.refused,
)

pub returns-else-some_leaves-clause-answer : goal.returns-else-some_leaves-clause-answer
returns-else-some_leaves-clause-answer c = (sym (actions_leave c.args.f.0 c.args.actions.now) ∙ sym c.some_leaves.ensures ∙ c.if-some_leaves.false, refl)
