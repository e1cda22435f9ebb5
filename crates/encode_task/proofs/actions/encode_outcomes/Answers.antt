-- One outcome more.
use Rattle.std.proofs.Common.{Contains, ◌≡◌, ◌+◌, ◌*◌, ◌≤◌, ◌++◌, ◌∙◌, [], ◌∷◌, arith, ap, map, subst, length, mul-le-mul_right}
use Rattle.std.proofs.lemmas.List.{map-append}
use Rattle.std.proofs.lemmas.Result.{err_from_is_err_and}
use Rattle.list_laws.proofs.Elements.{Contains-flat_map}
use Rattle.dd_sets.specs.LiveSets.{live_count}
use Rattle.dd_sets.proofs.FrameLemmas.{kept_chain}
use Rattle.encode_task.specs.Counts.{left_by, left_in_outcomes}
use Rattle.encode_task.specs.Slots.{is_listed}
use Rattle.encode_task.proofs.CountLemmas.{left_more_outcomes}
use Rattle.encode_task.proofs.OnlyLemmas.{only_more}
use Rattle.std.specs.List.{flat_map}
use Rattle.encode_task.specs.KeptSets.{next_sets}
use Rattle.encode_task.proofs.KeptLemmas.{adds_chain, adds_weaker, item_in, room_later}
use Rattle.encode_task.proofs.OutcomeSizes.{outcome_at}
use Rattle.encode_task.proofs.PartLemmas.{same_refusal_of}
use Rattle.encode_task.proofs.TableLemmas.{made_more, outcome_stays}
use Rattle.encode_task.proofs.actions.encode_outcomes.Goals as goal

pub returns-in_err-changed-clause-full : goal.returns-in_err-changed-clause-full
returns-in_err-changed-clause-full c full w wide small =
    let p = err_from_is_err_and c.from_residual.result c.from_residual.ensures.1 in
    let room : (c.loop-outcome.outcome-index + 1) * c.args.sets.now.vars ≤ length c.args.outcomes.now * c.args.sets.now.vars = mul-le-mul_right c.args.sets.now.vars (omega arith) in
    let vars : c.loop-outcome.sets.vars ≡ c.args.sets.now.vars = c.loop-outcome.invariant.kept.vars in
    let among = item_in c.args.outcomes.now c.loop-outcome.outcome-index c.outcome-item.result c.loop-outcome-test.true c.outcome-item.is in
    room_later (Contains (flat_map (next_sets c.args.sets.now.vars) c.args.outcomes.now)) (Contains (next_sets c.loop-outcome.sets.vars c.outcome-item.result)) _ _ c.loop-outcome.invariant.kept c.loop-outcome.invariant.adds
    (omega (arith, c.loop-outcome.invariant.few))
    (λ set has. Contains-flat_map (next_sets c.args.sets.now.vars) c.args.outcomes.now c.outcome-item.result set among (subst (λ v. Contains (next_sets v c.outcome-item.result) set) vars has))
    (c.encode_outcome.ensures.full (same_refusal_of c.encode_outcome.result c.from_residual.result _ c.in_err-changed.was p full) w (omega arith) (outcome_at w _ _ c.outcome-item.result vars (small c.outcome-item.result among)))

pub loop-outcome-preserved : goal.loop-outcome-preserved
loop-outcome-preserved c =
    let vars : c.loop-outcome.sets.vars ≡ c.args.sets.now.vars = c.loop-outcome.invariant.kept.vars in
    let items : map (λ changed. changed.items) c.put.new.list.items ≡ map (λ changed. changed.items) c.loop-outcome.made.items ++ c.in_ok-changed.changed.items ∷ [] =
    ap (map (λ changed. changed.items)) c.in_ok-put.ensures ∙ map-append (λ changed. changed.items) c.loop-outcome.made.items (c.in_ok-changed.changed ∷ []) in
    let step : live_count c.encode_outcome.new.sets + left_by c.args.sets.now.vars c.in_ok-changed.changed.items ≤ live_count c.loop-outcome.sets + c.args.sets.now.vars =
    subst (λ k. live_count c.encode_outcome.new.sets + left_by k c.in_ok-changed.changed.items ≤ live_count c.loop-outcome.sets + k) vars c.in_ok-changed.ensures.few in
    record {
      kept = kept_chain _ _ _ c.loop-outcome.invariant.kept c.encode_outcome.ensures.kept;
      made = made_more _ _ (λ changed. changed.items) c.loop-outcome.made.items c.put.new.list.items c.in_ok-changed.changed c.args.outcomes.now c.loop-outcome.outcome-index c.outcome-item.result
          (outcome_stays _ _ c.encode_outcome.ensures.kept) c.in_ok-put.ensures c.loop-outcome-test.true c.outcome-item.is c.loop-outcome.invariant.made c.in_ok-changed.ensures.made;
      adds = adds_chain (Contains (flat_map (next_sets c.args.sets.now.vars) c.args.outcomes.now)) _ _ _ c.encode_outcome.ensures.kept c.loop-outcome.invariant.adds
          (adds_weaker (Contains (next_sets c.loop-outcome.sets.vars c.outcome-item.result)) (Contains (flat_map (next_sets c.args.sets.now.vars) c.args.outcomes.now)) _ _
          (λ set has. Contains-flat_map (next_sets c.args.sets.now.vars) c.args.outcomes.now c.outcome-item.result set (item_in c.args.outcomes.now c.loop-outcome.outcome-index c.outcome-item.result c.loop-outcome-test.true c.outcome-item.is)
          (subst (λ v. Contains (next_sets v c.outcome-item.result) set) vars has))
          c.in_ok-changed.ensures.adds);
      only = only_more _ _ _ is_listed _ _ c.in_ok-changed.changed.items items c.loop-outcome.invariant.only c.in_ok-changed.ensures.only;
      few = omega (
        arith,
        c.loop-outcome.invariant.few,
        ap (left_in_outcomes c.args.sets.now.vars) items,
        left_more_outcomes c.args.sets.now.vars (map (λ changed. changed.items) c.loop-outcome.made.items) c.in_ok-changed.changed.items,
      );
    }
