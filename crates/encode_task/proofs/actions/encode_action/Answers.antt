-- The outcomes, what they lead to states, and where the action can be executed.
use Rattle.std.proofs.Common.{Contains, ◌+◌, [], map, length, arith, ap, sym, subst, ◌∙◌, ◌*◌, ◌≡◌}
use Rattle.std.proofs.lemmas.List.{length-map}
use Rattle.std.proofs.lemmas.Result.{err_from_is_err_and}
use Rattle.dd_sets.specs.LiveSets.{live_count}
use Rattle.std.specs.List.{flat_map}
use Rattle.dd_sets.specs.Rooms.{Small}
use Rattle.task_core.specs.Conditions.{holds}
use Rattle.encode_task.specs.KeptSets.{next_sets, sets_of_action}
use Rattle.encode_task.proofs.ActionSizes.{action_at, outcome_small}
use Rattle.encode_task.proofs.KeptLemmas.{adds_chain, adds_owned, adds_same, adds_two, adds_weaker, exec_of_action, lands_of_action, nexts_of_action, room_from, room_later}
use Rattle.dd_sets.proofs.FrameLemmas.{kept_chain, kept_same}
use Rattle.dd_sets.proofs.OwnedLemmas.{one_live, own_set}
use Rattle.task_core.specs.Actions.{action_within}
use Rattle.encode_task.specs.Tables.{AllPaired, LandsMade, OutcomeMade}
use Rattle.encode_task.proofs.MadeLemmas.{holds_kept}
use Rattle.encode_task.proofs.OnlyLemmas.{only_action, only_owned}
use Rattle.encode_task.proofs.PartLemmas.{answer_slot, same_refusal_of}
use Rattle.encode_task.proofs.ShallowLemmas.{few_outcomes}
use Rattle.encode_task.proofs.TableLemmas.{lands_stay, outcome_stays, paired_length, paired_weaker}
use Rattle.encode_task.proofs.WholeLemmas.{one_more_each}
use Rattle.encode_task.specs.TaskSets.{lands_of}
use Rattle.encode_task.proofs.actions.encode_action.Goals as goal

pub returns-in_err-outcomes-clause-full : goal.returns-in_err-outcomes-clause-full
returns-in_err-outcomes-clause-full c full w wide whole small =
    let p = err_from_is_err_and c.from_residual.result c.from_residual.ensures.1 in
    let same : length c.deref.result.now * c.args.sets.now.vars ≡ length c.args.action.now.outcomes.items * c.args.sets.now.vars = ap (λ l. length l * c.args.sets.now.vars) c.deref.ensures.value in
    let kept = Contains (sets_of_action c.args.sets.now.vars c.args.invariant.now c.args.action.now) in
    room_later kept (Contains (flat_map (next_sets c.args.sets.now.vars) c.deref.result.now)) _ _ (kept_same c.args.sets.now) (adds_same kept c.args.sets.now) (omega (arith, one_more_each (length c.args.action.now.outcomes.items) c.args.sets.now.vars))
    (λ set has. nexts_of_action c.args.sets.now.vars c.args.invariant.now c.args.action.now _ set c.deref.ensures.value has)
    (c.encode_outcomes.ensures.full (same_refusal_of c.encode_outcomes.result c.from_residual.result _ c.in_err-outcomes.was p full) w wide
    (λ outcome among. outcome_small w _ c.args.invariant.now c.args.action.now _ outcome c.deref.ensures.value among small))

pub encode_lands-requires-clause-space : goal.encode_lands-requires-clause-space
encode_lands-requires-clause-space c = holds_kept _ _ c.encode_outcomes.ensures.kept _ _ c.requires.space

pub encode_lands-requires-clause-made : goal.encode_lands-requires-clause-made
encode_lands-requires-clause-made c =
    subst (AllPaired (OutcomeMade c.encode_outcomes.new.sets) (map (λ changed. changed.items) c.deref-2.result.now)) c.deref.ensures.value
    (subst (λ l. AllPaired (OutcomeMade c.encode_outcomes.new.sets) (map (λ changed. changed.items) l) c.deref.result.now) (sym c.deref-2.ensures.value) c.in_ok-outcomes.ensures.made)

pub returns-in_err-lands-clause-full : goal.returns-in_err-lands-clause-full
returns-in_err-lands-clause-full c full w wide whole small =
    let p = err_from_is_err_and c.from_residual-in_err-lands.result c.from_residual-in_err-lands.ensures.1 in
    let same : length c.deref.result.now * c.args.sets.now.vars ≡ length c.args.action.now.outcomes.items * c.args.sets.now.vars = ap (λ l. length l * c.args.sets.now.vars) c.deref.ensures.value in
    let vars : c.encode_outcomes.new.sets.vars ≡ c.args.sets.now.vars = c.encode_outcomes.ensures.kept.vars in
    let kept = Contains (sets_of_action c.args.sets.now.vars c.args.invariant.now c.args.action.now) in
    room_later kept (Contains (map (lands_of c.args.invariant.now) c.args.action.now.outcomes.items)) _ _ c.encode_outcomes.ensures.kept
    (adds_weaker (Contains (flat_map (next_sets c.args.sets.now.vars) c.deref.result.now)) kept _ _
    (λ set has. nexts_of_action c.args.sets.now.vars c.args.invariant.now c.args.action.now _ set c.deref.ensures.value has) c.in_ok-outcomes.ensures.adds)
    (omega (arith, c.in_ok-outcomes.ensures.few, one_more_each (length c.args.action.now.outcomes.items) c.args.sets.now.vars))
    (λ set has. lands_of_action c.args.sets.now.vars c.args.invariant.now c.args.action.now set has)
    (c.encode_lands.ensures.full (same_refusal_of c.encode_lands.result c.from_residual-in_err-lands.result _ c.in_err-lands.was p full) w (omega arith)
    (subst (λ v. Small v w (holds c.args.invariant.now)) (sym vars) whole) (action_at w _ _ c.args.invariant.now c.args.action.now vars small))

pub exec_states-requires-clause-space : goal.exec_states-requires-clause-space
exec_states-requires-clause-space c = holds_kept _ _ (kept_chain _ _ _ c.encode_outcomes.ensures.kept c.encode_lands.ensures.kept) _ _ c.requires.space

pub exec_states-requires-clause-within : goal.exec_states-requires-clause-within
exec_states-requires-clause-within c =
    ap (λ n. action_within n c.args.action.now) (c.encode_lands.ensures.kept.vars ∙ c.encode_outcomes.ensures.kept.vars) ∙ c.requires.within

pub exec_states-requires-clause-lands : goal.exec_states-requires-clause-lands
exec_states-requires-clause-lands c =
    subst (λ l. LandsMade c.encode_lands.new.sets c.args.invariant.now l c.args.action.now.outcomes.items) (sym c.deref-3.ensures.value) c.in_ok-lands.ensures.made

pub returns-in_err-exec-clause-full : goal.returns-in_err-exec-clause-full
returns-in_err-exec-clause-full c full w wide whole small =
    let p = err_from_is_err_and c.from_residual-in_err-exec.result c.from_residual-in_err-exec.ensures.1 in
    let same : length c.deref.result.now * c.args.sets.now.vars ≡ length c.args.action.now.outcomes.items * c.args.sets.now.vars = ap (λ l. length l * c.args.sets.now.vars) c.deref.ensures.value in
    let begun = kept_chain _ _ _ c.encode_outcomes.ensures.kept c.encode_lands.ensures.kept in
    room_from _ _ 204 1 begun
    (adds_two c.args.sets.now.vars c.args.invariant.now c.args.action.now _ _ _ _ c.deref.ensures.value c.encode_lands.ensures.kept c.in_ok-outcomes.ensures.adds c.in_ok-lands.ensures.adds)
    (omega (arith, c.in_ok-outcomes.ensures.few, c.in_ok-lands.ensures.few, one_more_each (length c.args.action.now.outcomes.items) c.args.sets.now.vars)) (omega arith) (omega arith)
    (c.exec_states.ensures.full (same_refusal_of c.exec_states.result c.from_residual-in_err-exec.result _ c.in_err-exec.was p full) w (action_at w _ _ c.args.invariant.now c.args.action.now begun.vars small))

pub invariant_of-result : goal.invariant_of-result
invariant_of-result c = record {
  few_outcomes = omega (
    arith,
    paired_length _ _ _ c.in_ok-outcomes.ensures.made,
    length-map c.in_ok-outcomes.outcomes.items (λ changed. changed.items),
    ap length c.deref.ensures.value,
    few_outcomes _ c.args.action.now c.requires.within,
  );
}

pub returns-clause-made : goal.returns-clause-made
returns-clause-made c =
    let exec = answer_slot _ _ _ c.exec_states.result _ c.in_ok-exec.was c.exec_states.ensures.answer in
    let later = kept_chain _ _ _ c.encode_lands.ensures.kept exec.kept in
    record {
      exec = record { live = one_live _ _ _ _ exec; holds = own_set _ _ _ _ [] [] exec };
      outcomes = paired_weaker _ _ (outcome_stays _ _ later) _ _
          (subst (AllPaired (OutcomeMade c.encode_outcomes.new.sets) (map (λ changed. changed.items) c.in_ok-outcomes.outcomes.items)) c.deref.ensures.value c.in_ok-outcomes.ensures.made);
      lands = lands_stay _ _ exec.kept c.args.invariant.now _ _ c.in_ok-lands.ensures.made;
    }

pub returns-clause-only : goal.returns-clause-only
returns-clause-only c =
    let exec = answer_slot _ _ _ c.exec_states.result _ c.in_ok-exec.was c.exec_states.ensures.answer in
    only_action _ _ _ _ (record { exec = c.in_ok-exec.exec; outcomes = map (λ changed. changed.items) c.in_ok-outcomes.outcomes.items; lands = c.in_ok-lands.lands.items }) c.in_ok-outcomes.ensures.only c.in_ok-lands.ensures.only
    (only_owned _ _ c.in_ok-exec.exec.0 _ exec)

pub returns-clause-few : goal.returns-clause-few
returns-clause-few c =
    let exec = answer_slot _ _ _ c.exec_states.result _ c.in_ok-exec.was c.exec_states.ensures.answer in
    let count : live_count c.exec_states.new.sets ≡ live_count c.encode_lands.new.sets + 1 = exec.count in
    let same : length c.deref.result.now * c.args.sets.now.vars ≡ length c.args.action.now.outcomes.items * c.args.sets.now.vars = ap (λ l. length l * c.args.sets.now.vars) c.deref.ensures.value in
    omega (arith, c.in_ok-outcomes.ensures.few, c.in_ok-lands.ensures.few, one_more_each (length c.args.action.now.outcomes.items) c.args.sets.now.vars)

pub returns-clause-adds : goal.returns-clause-adds
returns-clause-adds c =
    let exec = answer_slot _ _ _ c.exec_states.result _ c.in_ok-exec.was c.exec_states.ensures.answer in
    let kept = Contains (sets_of_action c.args.sets.now.vars c.args.invariant.now c.args.action.now) in
    adds_chain kept _ _ _ exec.kept
    (adds_two c.args.sets.now.vars c.args.invariant.now c.args.action.now _ _ _ _ c.deref.ensures.value c.encode_lands.ensures.kept c.in_ok-outcomes.ensures.adds c.in_ok-lands.ensures.adds)
    (adds_owned kept _ _ c.in_ok-exec.exec.0 _ exec (exec_of_action c.args.sets.now.vars c.args.invariant.now c.args.action.now))
