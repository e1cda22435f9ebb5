-- One change more.
use Rattle.std.proofs.Common.{Contains, ◌≡◌, ◌+◌, ◌∙◌, ◌≤◌, [], arith, sym, subst, ap}
use Rattle.std.proofs.lemmas.List.{take_all}
use Rattle.std.proofs.lemmas.Result.{err_from_is_err_and}
use Rattle.dd_sets.specs.LiveSets.{live_count}
use Rattle.dd_sets.proofs.FrameLemmas.{kept_chain, kept_same}
use Rattle.std.specs.List.{list_all}
use Rattle.task_core.specs.Actions.{change_within}
use Rattle.task_core.specs.Cubes.{Cube}
use Rattle.encode_task.specs.Names.{literals_of}
use Rattle.encode_task.proofs.ChangeLemmas.{literals_more}
use Rattle.encode_task.specs.Counts.{left_by}
use Rattle.encode_task.specs.Slots.{is_listed}
use Rattle.encode_task.specs.Tables.{IsDone}
use Rattle.encode_task.proofs.CountLemmas.{left_all}
use Rattle.encode_task.proofs.OnlyLemmas.{only_same}
use Rattle.encode_task.specs.KeptRooms.{AddsSets}
use Rattle.encode_task.specs.KeptSets.{next_sets}
use Rattle.encode_task.proofs.KeptLemmas.{adds_chain, adds_same, room_later}
use Rattle.encode_task.proofs.OutcomeSizes.{outcome_at}
use Rattle.encode_task.proofs.PartLemmas.{item_passes, same_refusal_of}
use Rattle.encode_task.proofs.StepLemmas.{all_done, nothing_done}
use Rattle.encode_task.proofs.actions.encode_outcome.Goals as goal

pub loop-change-init : goal.loop-change-init
loop-change-init c = record {
  kept = kept_same c.args.sets.now;
  done = subst (λ changed. IsDone c.args.sets.now changed c.args.outcome.now []) (sym c.new-changed.ensures.items) (nothing_done c.args.sets.now c.args.outcome.now);
  adds = adds_same (Contains (next_sets c.args.sets.now.vars c.args.outcome.now)) c.args.sets.now;
  only = only_same c.args.sets.now (λ slot. is_listed slot c.new-changed.result.items);
  few = omega (arith, ap (left_by c.args.sets.now.vars) c.new-changed.ensures.items, left_all c.args.sets.now.vars);
}

pub encode_change-requires-clause-named : goal.encode_change-requires-clause-named
encode_change-requires-clause-named c = item_passes change_within c.args.sets.now.vars c.loop-change.sets.vars c.deref-change-items.result.now c.loop-change.change-index c.change-item.result
    (ap (list_all (change_within c.args.sets.now.vars)) c.deref-change-items.ensures.value ∙ c.requires.within) c.loop-change.invariant.kept.vars c.loop-change-test.true c.change-item.is

pub returns-in_err-encode_change-clause-full : goal.returns-in_err-encode_change-clause-full
returns-in_err-encode_change-clause-full c full w wide small =
    let p = err_from_is_err_and c.from_residual.result c.from_residual.ensures.1 in
    let vars : c.loop-change.sets.vars ≡ c.args.sets.now.vars = c.loop-change.invariant.kept.vars in
    room_later (Contains (next_sets c.args.sets.now.vars c.args.outcome.now)) (Contains (next_sets c.loop-change.sets.vars c.args.outcome.now)) _ _ c.loop-change.invariant.kept c.loop-change.invariant.adds
    (omega (arith, c.loop-change.invariant.few, ap (λ n. left_by n c.loop-change.changed.items) vars))
    (λ set has. subst (λ v. Contains (next_sets v c.args.outcome.now) set) vars has)
    (c.encode_change.ensures.full (same_refusal_of c.encode_change.result c.from_residual.result _ c.in_err-encode_change.was p full) w (omega arith) (outcome_at w _ _ c.args.outcome.now vars small))

pub loop-change-preserved : goal.loop-change-preserved
loop-change-preserved c =
    let vars : c.loop-change.sets.vars ≡ c.args.sets.now.vars = c.loop-change.invariant.kept.vars in
    let more = literals_more c.deref-change-items.result.now c.loop-change.change-index c.change-item.result c.loop-change-test.true c.change-item.is in
    let step : live_count c.encode_change.new.sets + left_by c.args.sets.now.vars c.encode_change.new.changed.items ≤ live_count c.loop-change.sets + left_by c.args.sets.now.vars c.loop-change.changed.items =
    subst (λ n. live_count c.encode_change.new.sets + left_by n c.encode_change.new.changed.items ≤ live_count c.loop-change.sets + left_by n c.loop-change.changed.items) vars c.in_ok-encode_change.ensures.few in
    record {
      kept = kept_chain _ _ _ c.loop-change.invariant.kept c.encode_change.ensures.kept;
      done = subst (λ (front : Cube). IsDone c.encode_change.new.sets c.encode_change.new.changed.items c.args.outcome.now front) more
          (c.in_ok-encode_change.ensures.step _ c.loop-change.invariant.done);
      adds = adds_chain (Contains (next_sets c.args.sets.now.vars c.args.outcome.now)) _ _ _ c.encode_change.ensures.kept c.loop-change.invariant.adds
          (subst (λ v. AddsSets (Contains (next_sets v c.args.outcome.now)) c.loop-change.sets c.encode_change.new.sets) vars c.in_ok-encode_change.ensures.adds);
      only = c.in_ok-encode_change.ensures.only c.args.sets.now c.loop-change.invariant.only;
      few = omega (arith, c.loop-change.invariant.few);
    }

pub returns-clause-made : goal.returns-clause-made
returns-clause-made c =
    all_done c.loop-change.sets c.loop-change.changed.items c.args.outcome.now _
    (ap literals_of (take_all c.loop-change.change-index c.deref-change-items.result.now (omega (arith, c.loop-change-test.false)) ∙ c.deref-change-items.ensures.value))
    c.loop-change.invariant.done
