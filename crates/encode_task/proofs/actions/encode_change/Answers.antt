-- One literal more.
use Rattle.std.proofs.Common.{Contains, ◌≡◌, ◌+◌, ◌++◌, ◌∙◌, ◌≤◌, ◌<◌, [], ◌∷◌, ℕ, false, true, append-nil, take, get_or, arith, ap, refl, subst, sym}
use Rattle.std.specs.List.{list_all}
use Rattle.std.proofs.lemmas.Bool.{and_parts, ltb-true}
use Rattle.std.proofs.lemmas.List.{append_assoc, take_all, take_more}
use Rattle.std.proofs.lemmas.Result.{err_from_is_err_and}
use Rattle.dd_sets.specs.LiveSets.{live_count}
use Rattle.dd_sets.proofs.FrameLemmas.{kept_chain, kept_same}
use Rattle.task_core.specs.Conditions.{ids_below}
use Rattle.task_core.specs.Cubes.{Cube}
use Rattle.task_core.specs.Initial.{lit_within}
use Rattle.task_core.specs.declared.literals.Lit.{Lit}
use Rattle.encode_task.specs.Counts.{left_by}
use Rattle.encode_task.specs.Tables.{IsDone}
use Rattle.encode_task.proofs.ChangeLemmas.{lit_passes}
use Rattle.encode_task.specs.KeptRooms.{AddsSets}
use Rattle.encode_task.specs.KeptSets.{next_sets}
use Rattle.encode_task.proofs.KeptLemmas.{adds_chain, adds_same, room_from}
use Rattle.encode_task.proofs.OutcomeSizes.{outcome_at}
use Rattle.encode_task.proofs.PartLemmas.{same_refusal_of}
use Rattle.encode_task.proofs.actions.encode_change.Goals as goal

-- the literal at a place
lit_at : Cube → ℕ → Lit
lit_at lits i = get_or lits i (record { fluent = record { 0 = 0 }; positive = false })

pub loop-lit-init : goal.loop-lit-init
loop-lit-init c = record {
  kept = kept_same c.args.sets.now;
  done = λ front done. subst (λ (lits : Cube). IsDone c.args.sets.now c.args.changed.now.items c.args.outcome.now lits) (sym (append-nil front)) done;
  adds = adds_same (Contains (next_sets c.args.sets.now.vars c.args.outcome.now)) c.args.sets.now;
  only = λ before only. only;
  few = omega arith;
}

pub encode_fluent-requires-clause-fluent : goal.encode_fluent-requires-clause-fluent
encode_fluent-requires-clause-fluent c =
    let n = c.args.sets.now.vars in
    let vars : c.loop-lit.sets.vars ≡ n = c.loop-lit.invariant.kept.vars in
    let lit : Lit = get_or c.deref-lit-items.result.now c.loop-lit.lit-index (record { fluent = record { 0 = 0 }; positive = false }) in
    let literals : list_all (lit_within n) c.args.change.now.lits.items ≡ true = (and_parts (ids_below n c.args.change.now.cond) (list_all (lit_within n) c.args.change.now.lits.items) c.requires.named).1 in
    let passes = lit_passes (lit_within n) c.deref-lit-items.result.now c.loop-lit.lit-index (record { fluent = record { 0 = 0 }; positive = false })
    (ap (list_all (lit_within n)) c.deref-lit-items.ensures.value ∙ literals) c.loop-lit-test.true in
    let low : lit.fluent.0 < n = ltb-true lit.fluent.0 n passes in
    omega arith

pub returns-in_err-encode_fluent-clause-full : goal.returns-in_err-encode_fluent-clause-full
returns-in_err-encode_fluent-clause-full c full w wide small =
    let p = err_from_is_err_and c.from_residual.result c.from_residual.ensures.1 in
    let vars : c.loop-lit.sets.vars ≡ c.args.sets.now.vars = c.loop-lit.invariant.kept.vars in
    room_from _ _ 208 1 c.loop-lit.invariant.kept c.loop-lit.invariant.adds (omega (arith, c.loop-lit.invariant.few)) (omega arith) (omega arith)
    (c.encode_fluent.ensures.full (same_refusal_of c.encode_fluent.result c.from_residual.result _ c.in_err-encode_fluent.was p full) w (omega arith) (outcome_at w _ _ c.args.outcome.now vars small))

pub loop-lit-preserved : goal.loop-lit-preserved
unfolding lit_at
loop-lit-preserved c =
    let vars : c.loop-lit.sets.vars ≡ c.args.sets.now.vars = c.loop-lit.invariant.kept.vars in
    let lits = c.deref-lit-items.result.now in
    let more : take (c.loop-lit.lit-index + 1) lits ≡ take c.loop-lit.lit-index lits ++ lit_at lits c.loop-lit.lit-index ∷ [] = take_more lits c.loop-lit.lit-index (record { fluent = record { 0 = 0 }; positive = false }) c.loop-lit-test.true in
    let step : live_count c.encode_fluent.new.sets + left_by c.args.sets.now.vars c.encode_fluent.new.changed.items ≤ live_count c.loop-lit.sets + left_by c.args.sets.now.vars c.loop-lit.changed.items =
    subst (λ n. live_count c.encode_fluent.new.sets + left_by n c.encode_fluent.new.changed.items ≤ live_count c.loop-lit.sets + left_by n c.loop-lit.changed.items) vars c.in_ok-encode_fluent.ensures.few in
    record {
      kept = kept_chain _ _ _ c.loop-lit.invariant.kept c.encode_fluent.ensures.kept;
      done = λ front done.
          subst (λ (l : Cube). IsDone c.encode_fluent.new.sets c.encode_fluent.new.changed.items c.args.outcome.now l)
          (append_assoc front (take c.loop-lit.lit-index lits) (lit_at lits c.loop-lit.lit-index ∷ []) ∙ ap (λ (l : Cube). front ++ l) (sym more))
          (c.in_ok-encode_fluent.ensures.step _ (lit_at lits c.loop-lit.lit-index) refl (c.loop-lit.invariant.done front done));
      adds = adds_chain (Contains (next_sets c.args.sets.now.vars c.args.outcome.now)) _ _ _ c.encode_fluent.ensures.kept c.loop-lit.invariant.adds
          (subst (λ v. AddsSets (Contains (next_sets v c.args.outcome.now)) c.loop-lit.sets c.encode_fluent.new.sets) vars c.in_ok-encode_fluent.ensures.adds);
      only = λ before only. c.in_ok-encode_fluent.ensures.only before (c.loop-lit.invariant.only before only);
      few = omega (arith, c.loop-lit.invariant.few);
    }

pub returns-clause-step : goal.returns-clause-step
returns-clause-step c front done =
    subst (λ (l : Cube). IsDone c.loop-lit.sets c.loop-lit.changed.items c.args.outcome.now (front ++ l)) (take_all c.loop-lit.lit-index c.deref-lit-items.result.now (omega (arith, c.loop-lit-test.false)) ∙ c.deref-lit-items.ensures.value)
    (c.loop-lit.invariant.done front done)
