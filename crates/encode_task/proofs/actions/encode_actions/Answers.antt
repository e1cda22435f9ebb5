-- One action more.
use Rattle.std.proofs.Common.{Contains, sym, ◌≡◌, ◌+◌, ◌*◌, ◌≤◌, ◌++◌, ◌∙◌, [], ◌∷◌, arith, ap, map, refl, subst, length, mul-le-mul_right}
use Rattle.std.proofs.lemmas.Bool.{leb-true}
use Rattle.std.proofs.lemmas.List.{map-append}
use Rattle.std.proofs.lemmas.Result.{err_from_is_err_and}
use Rattle.list_laws.proofs.Elements.{Contains-flat_map}
use Rattle.dd_sets.specs.LiveSets.{live_count}
use Rattle.dd_sets.proofs.FrameLemmas.{kept_chain}
use Rattle.encode_task.specs.Counts.{left_in_actions, left_in_outcomes}
use Rattle.encode_task.specs.Names.{has_outcomes_within}
use Rattle.encode_task.specs.Seen.{slots_of}
use Rattle.encode_task.specs.Slots.{is_of_action}
use Rattle.encode_task.proofs.CountLemmas.{left_more_actions}
use Rattle.encode_task.proofs.MadeLemmas.{holds_kept}
use Rattle.encode_task.proofs.OnlyLemmas.{only_more}
use Rattle.std.specs.List.{flat_map}
use Rattle.dd_sets.specs.Rooms.{Small}
use Rattle.task_core.specs.Conditions.{holds}
use Rattle.encode_task.specs.KeptSets.{sets_of_action}
use Rattle.encode_task.proofs.ActionSizes.{action_at}
use Rattle.encode_task.proofs.KeptLemmas.{adds_chain, adds_weaker, item_in, room_later}
use Rattle.encode_task.proofs.PartLemmas.{item_passes, same_refusal_of}
use Rattle.encode_task.proofs.TableLemmas.{action_stays, made_more}
use Rattle.encode_task.proofs.actions.encode_actions.Goals as goal

pub encode_action-requires-clause-space : goal.encode_action-requires-clause-space
encode_action-requires-clause-space c = holds_kept _ _ c.loop-action.invariant.kept _ _ c.requires.space

pub returns-in_err-slots-clause-full : goal.returns-in_err-slots-clause-full
returns-in_err-slots-clause-full c full w wide whole small most all =
    let p = err_from_is_err_and c.from_residual.result c.from_residual.ensures.1 in
    let vars : c.loop-action.sets.vars ≡ c.args.sets.now.vars = c.loop-action.invariant.kept.vars in
    let few : length c.action-item.result.outcomes.items ≤ most =
    leb-true (length c.action-item.result.outcomes.items) most (item_passes has_outcomes_within most most c.args.actions.now c.loop-action.action-index c.action-item.result all refl c.loop-action-test.true c.action-item.is) in
    let outcomes : length c.action-item.result.outcomes.items * (c.args.sets.now.vars + 1) ≤ most * (c.args.sets.now.vars + 1) = mul-le-mul_right (c.args.sets.now.vars + 1) few in
    let same : length c.action-item.result.outcomes.items * (c.loop-action.sets.vars + 1) ≡ length c.action-item.result.outcomes.items * (c.args.sets.now.vars + 1) = ap (λ v. length c.action-item.result.outcomes.items * (v + 1)) vars in
    let room : (c.loop-action.action-index + 1) * (most * (c.args.sets.now.vars + 1) + 1) ≤ length c.args.actions.now * (most * (c.args.sets.now.vars + 1) + 1) = mul-le-mul_right (most * (c.args.sets.now.vars + 1) + 1) (omega arith) in
    let among = item_in c.args.actions.now c.loop-action.action-index c.action-item.result c.loop-action-test.true c.action-item.is in
    room_later (Contains (flat_map (sets_of_action c.args.sets.now.vars c.args.invariant.now) c.args.actions.now)) (Contains (sets_of_action c.loop-action.sets.vars c.args.invariant.now c.action-item.result)) _ _
    c.loop-action.invariant.kept c.loop-action.invariant.adds (omega (arith, c.loop-action.invariant.few most all))
    (λ set has. Contains-flat_map (sets_of_action c.args.sets.now.vars c.args.invariant.now) c.args.actions.now c.action-item.result set among (subst (λ v. Contains (sets_of_action v c.args.invariant.now c.action-item.result) set) vars has))
    (c.encode_action.ensures.full (same_refusal_of c.encode_action.result c.from_residual.result _ c.in_err-slots.was p full) w (omega arith)
    (subst (λ v. Small v w (holds c.args.invariant.now)) (sym vars) whole) (action_at w _ _ c.args.invariant.now c.action-item.result vars (small c.action-item.result among)))

pub loop-action-preserved : goal.loop-action-preserved
loop-action-preserved c =
    let vars : c.loop-action.sets.vars ≡ c.args.sets.now.vars = c.loop-action.invariant.kept.vars in
    let items : map slots_of c.put.new.list.items ≡ map slots_of c.loop-action.made.items ++ slots_of c.in_ok-slots.slots ∷ [] =
    ap (map slots_of) c.in_ok-put.ensures ∙ map-append slots_of c.loop-action.made.items (c.in_ok-slots.slots ∷ []) in
    record {
      kept = kept_chain _ _ _ c.loop-action.invariant.kept c.encode_action.ensures.kept;
      made = made_more _ _ slots_of c.loop-action.made.items c.put.new.list.items c.in_ok-slots.slots c.args.actions.now c.loop-action.action-index c.action-item.result
          (action_stays c.args.invariant.now _ _ c.encode_action.ensures.kept) c.in_ok-put.ensures c.loop-action-test.true c.action-item.is c.loop-action.invariant.made c.in_ok-slots.ensures.made;
      adds = adds_chain (Contains (flat_map (sets_of_action c.args.sets.now.vars c.args.invariant.now) c.args.actions.now)) _ _ _ c.encode_action.ensures.kept c.loop-action.invariant.adds
          (adds_weaker (Contains (sets_of_action c.loop-action.sets.vars c.args.invariant.now c.action-item.result)) (Contains (flat_map (sets_of_action c.args.sets.now.vars c.args.invariant.now) c.args.actions.now)) _ _
          (λ set has. Contains-flat_map (sets_of_action c.args.sets.now.vars c.args.invariant.now) c.args.actions.now c.action-item.result set
          (item_in c.args.actions.now c.loop-action.action-index c.action-item.result c.loop-action-test.true c.action-item.is) (subst (λ v. Contains (sets_of_action v c.args.invariant.now c.action-item.result) set) vars has))
          c.in_ok-slots.ensures.adds);
      only = only_more _ _ _ is_of_action _ _ (slots_of c.in_ok-slots.slots) items c.loop-action.invariant.only c.in_ok-slots.ensures.only;
      few = λ most all.
          let few : length c.action-item.result.outcomes.items ≤ most =
          leb-true (length c.action-item.result.outcomes.items) most
          (item_passes has_outcomes_within most most c.args.actions.now c.loop-action.action-index c.action-item.result all refl c.loop-action-test.true c.action-item.is) in
          let outcomes : length c.action-item.result.outcomes.items * (c.args.sets.now.vars + 1) ≤ most * (c.args.sets.now.vars + 1) = mul-le-mul_right (c.args.sets.now.vars + 1) few in
          let step : live_count c.encode_action.new.sets + left_in_outcomes c.args.sets.now.vars (slots_of c.in_ok-slots.slots).outcomes
          ≤ live_count c.loop-action.sets + (length c.action-item.result.outcomes.items * (c.args.sets.now.vars + 1) + 1) =
          subst (λ k. live_count c.encode_action.new.sets + left_in_outcomes k (slots_of c.in_ok-slots.slots).outcomes ≤ live_count c.loop-action.sets + (length c.action-item.result.outcomes.items * (k + 1) + 1)) vars c.in_ok-slots.ensures.few in
          omega (arith, c.loop-action.invariant.few most all, ap (left_in_actions c.args.sets.now.vars) items, left_more_actions c.args.sets.now.vars (map slots_of c.loop-action.made.items) (slots_of c.in_ok-slots.slots));
    }
