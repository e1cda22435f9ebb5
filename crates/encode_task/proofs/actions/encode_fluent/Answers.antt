-- The fluent is new in the list.
use Rattle.std.proofs.Common.{Contains, ◌≡◌, ◌+◌, ◌++◌, [], ◌∷◌, ◌∙◌, List, arith, sym, subst, ap, is_some, false}
use Rattle.task_core.specs.declared.literals.FluentId.{FluentId}
use Rattle.dd_sets.specs.LiveSets.{live_count, listed_set}
use Rattle.dd_sets.specs.declared.slots.SetId.{SetId}
use Rattle.encode_task.specs.Counts.{left_by}
use Rattle.encode_task.specs.Tables.{IsDone}
use Rattle.encode_task.proofs.CountLemmas.{left_less}
use Rattle.dd_sets.proofs.OwnedLemmas.{one_live, own_set}
use Rattle.encode_task.specs.KeptSets.{next_sets}
use Rattle.encode_task.proofs.KeptLemmas.{adds_owned, next_in}
use Rattle.encode_task.proofs.PartLemmas.{answer_slot, same_refusal_of}
use Rattle.std.proofs.lemmas.Result.{err_from_is_err_and}
use Rattle.encode_task.proofs.StepLemmas.{step_changed}
use Rattle.encode_task.proofs.actions.encode_fluent.Goals as goal

pub returns-clause-step : goal.returns-clause-step
returns-clause-step c front lit is done =
    let owns = answer_slot _ _ _ c.next_value.result _ c.in_ok-next.was c.next_value.ensures.answer in
    subst (λ (changed : List (FluentId × SetId)). IsDone c.next_value.new.sets changed c.args.outcome.now (front ++ lit ∷ [])) (sym c.in_ok-put.ensures)
    (step_changed _ _ c.args.changed.now.items c.args.outcome.now c.args.f c.in_ok-next.next front lit owns.kept
    (record { live = one_live _ _ _ _ owns; holds = own_set _ _ _ _ [] [] owns }) is done)

pub returns-clause-few : goal.returns-clause-few
returns-clause-few c =
    let owns = answer_slot _ _ _ c.next_value.result _ c.in_ok-next.was c.next_value.ensures.answer in
    let count : live_count c.next_value.new.sets ≡ live_count c.args.sets.now + 1 = owns.count in
    let same : left_by c.args.sets.now.vars c.put.new.list.items ≡ left_by c.args.sets.now.vars (c.args.changed.now.items ++ (c.args.f, c.in_ok-next.next) ∷ []) = ap (left_by c.args.sets.now.vars) c.in_ok-put.ensures in
    let unlisted : is_some (listed_set c.args.changed.now.items c.args.f.0) ≡ false =
    ap (λ (l : List (FluentId × SetId)). is_some (listed_set l c.args.f.0)) (sym c.deref.ensures.value) ∙ ap is_some (sym c.slot_for.ensures) ∙ sym c.is_some.ensures ∙ c.if-is_some.false in
    omega (arith, left_less c.args.sets.now.vars c.args.changed.now.items (c.args.f, c.in_ok-next.next) unlisted c.requires.fluent)

pub returns-clause-adds : goal.returns-clause-adds
returns-clause-adds c =
    let owns = answer_slot _ _ _ c.next_value.result _ c.in_ok-next.was c.next_value.ensures.answer in
    adds_owned (Contains (next_sets c.args.sets.now.vars c.args.outcome.now)) _ _ c.in_ok-next.next.0 _ owns (next_in c.args.sets.now.vars c.args.outcome.now c.args.f.0 c.requires.fluent)

pub returns-in_err-next-clause-full : goal.returns-in_err-next-clause-full
returns-in_err-next-clause-full c full w wide small =
    let p = err_from_is_err_and c.from_residual.result c.from_residual.ensures.1 in
    c.next_value.ensures.full (same_refusal_of c.next_value.result c.from_residual.result _ c.in_err-next.was p full) w wide small
