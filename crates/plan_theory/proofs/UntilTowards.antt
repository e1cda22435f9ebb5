-- The stage that a state turns to: which stages are met, where the rest of an until-chain can be had,
-- and the action that leads on.
use Rattle.std.proofs.Common.{◌≡◌, ℕ, zero, suc, ◌+◌, ◌-◌, ◌<◌, ◌≤◌, ◌^◌, Bool, true, false, List, [], ◌∷◌, drop, length, Some, refl, sym, ◌∙◌, ap, subst, arith, ⊎_elim}
use Rattle.std.proofs.lemmas.Bool.{and_parts, cases_lt, cond-false, cond-true, true≢false}
use Rattle.std.proofs.lemmas.List.{drop-drop, drop_all, length-drop}
use Rattle.task_core.specs.Cubes.{SetOfVectors}
use Rattle.task_core.specs.Vectors.{Vector}
use Rattle.task_core.specs.Systems.{System, IsVector, IsSystem}
use Rattle.plan_theory.specs.Layers.{action_numbers, must_lead}
use Rattle.list_laws.proofs.Elements.{find-Some, find-found}
use Rattle.plan_theory.specs.UntilChains.{SetStage, UntilSets, guarded_from, until_advance, until_contexts, until_met, until_met_count, until_win, until_win_at}
use Rattle.plan_theory.specs.UntilPrinted.{until_towards}
use Rattle.plan_theory.specs.Safe.{safe_set}
use Rattle.plan_theory.specs.GuardedSets.{guarded_near, guarded_set}
use Rattle.plan_theory.proofs.Leading.{leads_more}
use Rattle.plan_theory.proofs.SafeSets.{safe_set-largest}
use Rattle.plan_theory.proofs.GuardedSets.{guarded_acts, in_guarded_set, near-grows}

nothing_there : {X : Type 0} (x : X) (xs : List X) → [] ≡ x ∷ xs → ⊥
nothing_there x xs e = let long : 0 ≡ suc (length xs) = ap length e in omega arith

-- what comes after the first of the stages that are left
pub drop-next : (k : ℕ) (s : List SetStage) (p : SetStage) (rest : List SetStage) → drop k s ≡ p ∷ rest → drop (suc k) s ≡ rest
drop-next k s p rest e =
    ap (λ n. drop n s) (let one : suc k ≡ k + 1 = omega arith in one) ∙ (sym (drop-drop 1 k s) ∙ ap (drop 1) e)

module _ (sys : System) (keep : SetOfVectors) (v : Vector) where
  count-met : (p : SetStage) (rest : List SetStage) → until_met sys keep p rest v ≡ true → until_met_count sys keep (p ∷ rest) v ≡ suc (until_met_count sys keep rest v)
  count-met p rest e = cond-true (until_met sys keep p rest v) (suc (until_met_count sys keep rest v)) 0 e

  count-unmet : (p : SetStage) (rest : List SetStage) → until_met sys keep p rest v ≡ false → until_met_count sys keep (p ∷ rest) v ≡ 0
  count-unmet p rest e = cond-false (until_met sys keep p rest v) (suc (until_met_count sys keep rest v)) 0 e

  pub met_count-few : (s : List SetStage) → until_met_count sys keep s v ≤ length s
  met_count-few [] = omega arith
  met_count-few (p ∷ rest) = go (until_met sys keep p rest v) refl (met_count-few rest)
    where
      go : (b : Bool) → until_met sys keep p rest v ≡ b → until_met_count sys keep rest v ≤ length rest → until_met_count sys keep (p ∷ rest) v ≤ suc (length rest)
      go true e few = let c = count-met p rest e in omega arith
      go false e few = let c = count-unmet p rest e in omega arith

  -- where the stages can be had, so can those from the first unmet one on
  pub win-unmet : (s : List SetStage) → until_win sys keep s v ≡ true → until_win sys keep (drop (until_met_count sys keep s v) s) v ≡ true
  win-unmet [] h = h
  win-unmet (p ∷ rest) h = go (until_met sys keep p rest v) refl (win-unmet rest)
    where
      go : (b : Bool) → until_met sys keep p rest v ≡ b → (until_win sys keep rest v ≡ true → until_win sys keep (drop (until_met_count sys keep rest v) rest) v ≡ true)
          → until_win sys keep (drop (until_met_count sys keep (p ∷ rest) v) (p ∷ rest)) v ≡ true
      go true e later = ap (λ n. until_win sys keep (drop n (p ∷ rest)) v) (count-met p rest e) ∙ later (and_parts (p.target v) (until_win sys keep rest v) e).1
      go false e later = ap (λ n. until_win sys keep (drop n (p ∷ rest)) v) (count-unmet p rest e) ∙ h

  same_met : (q p : SetStage) (others rest : List SetStage) → q ∷ others ≡ p ∷ rest → until_met sys keep q others v ≡ until_met sys keep p rest v
  same_met q p others rest e =
      let first : q ≡ p = cc in
      let later : others ≡ rest = cc in
      ap (λ r. until_met sys keep r others v) first ∙ ap (λ rs. until_met sys keep p rs v) later

  -- that one isn't met
  pub first-unmet : (s : List SetStage) (p : SetStage) (rest : List SetStage) → drop (until_met_count sys keep s v) s ≡ p ∷ rest → until_met sys keep p rest v ≡ false
  first-unmet [] p rest e = absurd (nothing_there p rest e)
  first-unmet (q ∷ others) p rest e = go (until_met sys keep q others v) refl (first-unmet others p rest)
    where
      go : (b : Bool) → until_met sys keep q others v ≡ b → (drop (until_met_count sys keep others v) others ≡ p ∷ rest → until_met sys keep p rest v ≡ false) → until_met sys keep p rest v ≡ false
      go true h later = later (ap (λ n. drop n (q ∷ others)) (sym (count-met q others h)) ∙ e)
      go false h later = sym (same_met q p others rest (ap (λ n. drop n (q ∷ others)) (sym (count-unmet q others h)) ∙ e)) ∙ h

  -- those before it are
  pub earlier-met : (s : List SetStage) (k : ℕ) (p : SetStage) (rest : List SetStage) → drop k s ≡ p ∷ rest → k < until_met_count sys keep s v → until_met sys keep p rest v ≡ true
  earlier-met [] k p rest e l = absurd (omega arith)
  earlier-met (q ∷ others) zero p rest e l = go (until_met sys keep q others v) refl
    where
      go : (b : Bool) → until_met sys keep q others v ≡ b → until_met sys keep p rest v ≡ true
      go true h = sym (same_met q p others rest e) ∙ h
      go false h = let c = count-unmet q others h in absurd (omega arith)
  earlier-met (q ∷ others) (suc k) p rest e l = go (until_met sys keep q others v) refl (earlier-met others k p rest e)
    where
      go : (b : Bool) → until_met sys keep q others v ≡ b → (k < until_met_count sys keep others v → until_met sys keep p rest v ≡ true) → until_met sys keep p rest v ≡ true
      go true h later = let c = count-met q others h in later (omega arith)
      go false h later = let c = count-unmet q others h in absurd (omega arith)

  pub met_count-more : (s : List SetStage) (k : ℕ) (p : SetStage) (rest : List SetStage) → drop k s ≡ p ∷ rest → k ≤ until_met_count sys keep s v → until_met sys keep p rest v ≡ true → suc k ≤ until_met_count sys keep s v
  met_count-more s k p rest e l met =
      ⊎_elim (λ (h : k < until_met_count sys keep s v). let more = h in omega arith)
      (λ (h : until_met_count sys keep s v ≤ k).
      let same : until_met_count sys keep s v ≡ k = omega arith in
      absurd (true≢false (sym met ∙ first-unmet s p rest (ap (λ n. drop n s) same ∙ e))))
      (cases_lt k (until_met_count sys keep s v))

  pub met_count-here : (s : List SetStage) (k : ℕ) (p : SetStage) (rest : List SetStage) → drop k s ≡ p ∷ rest → k ≤ until_met_count sys keep s v → until_met sys keep p rest v ≡ false → until_met_count sys keep s v ≡ k
  met_count-here s k p rest e l unmet =
      ⊎_elim (λ (h : k < until_met_count sys keep s v). absurd (true≢false (sym (earlier-met s k p rest e h) ∙ unmet)))
      (λ (h : until_met_count sys keep s v ≤ k). omega arith)
      (cases_lt k (until_met_count sys keep s v))

-- the action towards the first of some stages, in a state in which it isn't met
pub record ActsOnward (sys : System) (keep : SetOfVectors) (s : List SetStage) (v : Vector) : Type 0 where
  pub action : ℕ
  pub chosen : until_towards sys keep s v ≡ Some action
  pub leads : must_lead sys (until_win sys keep s) v action ≡ true

module _ (sys : System) (ok : IsSystem sys) (keep : SetOfVectors) (v : Vector) (is : IsVector sys v) where
  pub acts_towards : (s : List SetStage) → until_win sys keep s v ≡ true → ((p : SetStage) (rest : List SetStage) → s ≡ p ∷ rest → until_met sys keep p rest v ≡ false) → ActsOnward sys keep s v
  acts_towards [] h unmet =
      let a = find-Some (must_lead sys (safe_set sys keep) v) (action_numbers sys) ((safe_set-largest sys keep ok).safe.stays v is h) in
      record { action = a.0; chosen = a.1; leads = (find-found (must_lead sys (safe_set sys keep) v) (action_numbers sys) a.0 a.1).1 }
  acts_towards (p ∷ rest) h unmet =
      let met = until_met sys keep p rest in
      let a = guarded_acts sys p.guard met v h (unmet p rest refl) in
      let K = 2 ^ sys.fluents in
      record {
        action = a.0;
        chosen = a.1.chosen;
        leads = leads_more sys (guarded_near sys p.guard met K) (guarded_set sys p.guard met) v a.0 (λ t o. in_guarded_set sys p.guard met ok K t (ok.next v a.0 t o).vector) (a.1.leads K (near-grows sys p.guard met v K (suc K) (omega arith) h));
      }

  pub acts_onward : (s : List SetStage) → until_win sys keep s v ≡ true → ActsOnward sys keep (drop (until_met_count sys keep s v) s) v
  acts_onward s h = acts_towards (drop (until_met_count sys keep s v) s) (win-unmet sys keep v s h) (λ p rest e. first-unmet sys keep v s p rest e)

-- the stages from the first unmet one on
module _ (sys : System) (chain : UntilSets) (c : ℕ) (v : Vector) (first : 1 ≤ c) where
  pub stages_from-advance : guarded_from (until_advance sys chain c v) chain.stages ≡ drop (until_met_count sys chain.keep (guarded_from c chain.stages) v) (guarded_from c chain.stages)
  stages_from-advance =
      let m = until_met_count sys chain.keep (guarded_from c chain.stages) v in
      ap (λ n. drop n chain.stages) (let e : (c + m) - 1 ≡ (c - 1) + m = omega arith in e) ∙ sym (drop-drop m (c - 1) chain.stages)

  pub advance-first : 1 ≤ until_advance sys chain c v
  advance-first = omega arith

  pub advance-last : c ≤ until_contexts chain → until_advance sys chain c v ≤ until_contexts chain
  advance-last last =
      let few = met_count-few sys chain.keep v (guarded_from c chain.stages) in
      let long = length-drop (c - 1) chain.stages in
      omega arith

  pub win_at-advance : until_win_at sys chain c v ≡ true → until_win_at sys chain (until_advance sys chain c v) v ≡ true
  win_at-advance h = ap (λ s. until_win sys chain.keep s v) stages_from-advance ∙ win-unmet sys chain.keep v (guarded_from c chain.stages) h

  -- what the plan is to do: go towards that stage
  pub chain_acts : IsSystem sys → IsVector sys v → until_win_at sys chain c v ≡ true → ActsOnward sys chain.keep (guarded_from (until_advance sys chain c v) chain.stages) v
  chain_acts ok is h = subst (λ s. ActsOnward sys chain.keep s v) (sym stages_from-advance) (acts_onward sys ok chain.keep v is (guarded_from c chain.stages) h)

-- after the last stage there is none
pub stages_from-end : (chain : UntilSets) → guarded_from (until_contexts chain) chain.stages ≡ []
stages_from-end chain = drop_all (suc (length chain.stages) - 1) chain.stages (omega arith)
