-- The states of a context by the first stage that isn't met.
use Rattle.std.proofs.Common.{◌≡◌, ℕ, zero, suc, ◌+◌, ◌-◌, ◌<◌, ◌≤◌, ◌==◌, Bool, true, false, not, ◌&&◌, List, [], ◌∷◌, drop, length, refl, sym, ap, ◌∙◌, ⊎_elim, arith}
use Rattle.std.specs.Prelude.{nat_le}
use Rattle.std.proofs.Math.Seq.{drop-drop}
use Rattle.std.proofs.lemmas.Bool.{and_from, and_parts, eq-eqb, eqb-true, false≢true, false_from_ne_true, le-leb, leb-true, cases_lt}
use Rattle.plan_theory.specs.UntilChains.{SetStage, UntilSets, until_met_count, until_win}
use Rattle.list_laws.proofs.Booleans.{same_truth}
use Rattle.plan_theory.proofs.UntilTowards.{earlier-met, met_count-few, met_count-more, win-unmet}
use Rattle.task_core.specs.Cubes.{SetOfVectors}
use Rattle.task_core.specs.Systems.{System}
use Rattle.task_core.specs.Vectors.{Vector}
use Rattle.context_plan.specs.Rounds.{from_stage}
use Rattle.context_plan.specs.WorkingSets.{met_first}

module _ (sys : System) (keep : SetOfVectors) (v : Vector) where
  -- the first of the stages from k on is met where more than k stages are met, and the other way
  -- round
  met_there : (s : List SetStage) (k : ℕ) → k ≤ until_met_count sys keep s v → met_first sys keep (drop k s) v ≡ true → suc k ≤ until_met_count sys keep s v
  met_there s k l h = go (drop k s) refl h
    where
      go : (r : List SetStage) → drop k s ≡ r → met_first sys keep r v ≡ true → suc k ≤ until_met_count sys keep s v
      go [] e h = absurd (false≢true h)
      go (p ∷ rest) e h = met_count-more sys keep v s k p rest e l h

  met_here : (s : List SetStage) (k : ℕ) → k < until_met_count sys keep s v → met_first sys keep (drop k s) v ≡ true
  met_here s k l = go (drop k s) refl
    where
      go : (r : List SetStage) → drop k s ≡ r → met_first sys keep r v ≡ true
      go [] e =
          let few = met_count-few sys keep v s in
          absurd (too_long s k e (omega arith))
        where
          too_long : (s : List SetStage) (k : ℕ) → drop k s ≡ [] → k < length s → ⊥
          too_long [] k e l = omega arith
          too_long (x ∷ s) zero e l = let long : suc (length s) ≡ 0 = ap length e in omega arith
          too_long (x ∷ s) (suc k) e l = too_long s k e (omega arith)
      go (p ∷ rest) e = earlier-met sys keep v s k p rest e l

module _ (sys : System) (chain : UntilSets) (c j : ℕ) (from : c ≤ j) (v : Vector) where
  abbrev stages : List SetStage
  stages = drop c chain.stages

  abbrev count : ℕ
  count = until_met_count sys chain.keep stages v

  abbrev won : Bool
  won = until_win sys chain.keep stages v

  later : drop (j - c) stages ≡ drop j chain.stages
  later = drop-drop (j - c) c chain.stages ∙ ap (λ n. drop n chain.stages) (let e : c + (j - c) ≡ j = omega arith in e)

  abbrev met : Bool
  met = met_first sys chain.keep (drop j chain.stages) v

  met_more : j ≤ c + count → met ≡ true → suc j ≤ c + count
  met_more l h =
      let m : j - c ≤ count = omega arith in
      let more = met_there sys chain.keep v stages (j - c) m (ap (λ s. met_first sys chain.keep s v) later ∙ h) in
      omega arith

  more_met : suc j ≤ c + count → met ≡ true
  more_met l =
      let m : j - c < count = omega arith in
      ap (λ s. met_first sys chain.keep s v) (sym later) ∙ met_here sys chain.keep v stages (j - c) m

  -- the stages before the next one are met
  pub from_next : (from_stage sys chain c j v && met) ≡ from_stage sys chain c (suc j) v
  from_next =
      same_truth (from_stage sys chain c j v && met) (from_stage sys chain c (suc j) v)
      (λ h.
      let a = and_parts (from_stage sys chain c j v) met h in
      let b = and_parts won (nat_le j (c + count)) a.0 in
      and_from won (nat_le (suc j) (c + count)) b.0 (le-leb (suc j) (c + count) (met_more (leb-true j (c + count) b.1) a.1)))
      (λ h.
      let a = and_parts won (nat_le (suc j) (c + count)) h in
      let l : suc j ≤ c + count = leb-true (suc j) (c + count) a.1 in
      and_from (from_stage sys chain c j v) met (and_from won (nat_le j (c + count)) a.0 (le-leb j (c + count) (omega arith))) (more_met l))

  not_met : (b : Bool) → not b ≡ true → b ≡ true → ⊥
  not_met true e h = false≢true e
  not_met false e h = false≢true h

  -- and this one isn't
  pub at_this : (from_stage sys chain c j v && not met) ≡ (won && (c + count == j))
  at_this =
      same_truth (from_stage sys chain c j v && not met) (won && (c + count == j))
      (λ h.
      let a = and_parts (from_stage sys chain c j v) (not met) h in
      let b = and_parts won (nat_le j (c + count)) a.0 in
      let l : j ≤ c + count = leb-true j (c + count) b.1 in
      let e : c + count ≡ j =
      ⊎_elim (λ (m : j < c + count). absurd (not_met met a.1 (more_met (omega arith)))) (λ (m : c + count ≤ j). omega arith) (cases_lt j (c + count)) in
      and_from won (c + count == j) b.0 (eq-eqb (c + count) j e))
      (λ h.
      let a = and_parts won (c + count == j) h in
      let e : c + count ≡ j = eqb-true (c + count) j a.1 in
      and_from (from_stage sys chain c j v) (not met) (and_from won (nat_le j (c + count)) a.0 (le-leb j (c + count) (omega arith)))
      (ap not (false_from_ne_true met (λ m. let more = met_more (omega arith) m in omega arith))))

  -- there the stages from this one on can be had
  pub won_this : won ≡ true → (c + count == j) ≡ true → until_win sys chain.keep (drop j chain.stages) v ≡ true
  won_this h at =
      let e : c + count ≡ j = eqb-true (c + count) j at in
      ap (λ n. until_win sys chain.keep (drop n chain.stages) v) (sym e)
      ∙ ap (λ s. until_win sys chain.keep s v) (sym (drop-drop count c chain.stages))
      ∙ win-unmet sys chain.keep v stages h
