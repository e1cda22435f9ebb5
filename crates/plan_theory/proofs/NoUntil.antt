-- Wherever a complete plan has an until-chain, it can be had; so where it can't, no plan has it.
use Rattle.std.proofs.Common.{◌≡◌, ℕ, zero, suc, ◌^◌, Bool, true, false, List, [], ◌∷◌, length, refl, sym, ◌∙◌, ap, arith, ⊎_elim, inr}
use Rattle.std.proofs.lemmas.Bool.{and_from, or_right, true≢false}
use Rattle.ctl_syntax.specs.Goals.{plain, all, goal_row}
use Rattle.ctl_syntax.specs.Paths.{Keeps, Meets, MeetsOrKeeps}
use Rattle.ctl_syntax.specs.Truth.{Nothing, Satisfies}
use Rattle.ctl_syntax.proofs.Meeting.{keeps_first, keeps_rest, meets_cases, meets_nothing}
use Rattle.task_core.specs.ContextPlans.{Configuration, ContextPlan, Follows, IsComplete, IsInitial, IsReachable}
use Rattle.task_core.specs.Paths.{IsPath}
use Rattle.task_core.specs.Cubes.{SetOfVectors}
use Rattle.task_core.specs.Systems.{System, IsSystem}
use Rattle.list_laws.proofs.Elements.{list_all-from}
use Rattle.plan_theory.specs.UntilChains.{SetStage, StateIsIn, UntilSets, covers_until, until_met, until_tree, until_win, until_win_at}
use Rattle.plan_theory.specs.UntilPlans.{HasNoUntilPlan}
use Rattle.plan_theory.specs.Safe.{safe_round, some_must_lead}
use Rattle.plan_theory.specs.GuardedSets.{guarded_near}
use Rattle.plan_theory.proofs.PlanPaths.{led_by, some_path}
use Rattle.plan_theory.proofs.PlanRuns.{reached_first, reached_next, reached_state}
use Rattle.plan_theory.proofs.GuardedSets.{in_guarded_set, near-grows}

module _ (sys : System) (ok : IsSystem sys) (keep : SetOfVectors) (plan : ContextPlan) (complete : IsComplete sys plan) where
  abbrev Step : Configuration → Configuration → Type 0
  Step = Follows sys plan

  abbrev Reached : Configuration → Type 0
  Reached = IsReachable sys plan

  abbrev IsTrue : List SetStage → Configuration → Type 0
  IsTrue rest x = Satisfies Step StateIsIn (until_tree rest keep) x

  -- a path that keeps a set
  kept_path : (x : Configuration) (rest : List Configuration) → MeetsOrKeeps (StateIsIn keep) Nothing (x ∷ rest) → Keeps (StateIsIn keep) (x ∷ rest)
  kept_path x rest h = ⊎_elim (λ (m : Meets (StateIsIn keep) Nothing (x ∷ rest)). absurd m.has) (λ (k : Keeps (StateIsIn keep) (x ∷ rest)). k) h

  kept_next : (x y : Configuration) → IsTrue [] x → Step x y → IsTrue [] y
  kept_next x y always step n rest long path =
      inr (keeps_rest (StateIsIn keep) x (y ∷ rest) (kept_path x (y ∷ rest) (always (suc n) (y ∷ rest) (ap suc long) (step, path))))

  in_rounds : (k : ℕ) (x : Configuration) → Reached x → IsTrue [] x → safe_round sys keep k x.state ≡ true
  in_rounds zero x reached always = keeps_first (StateIsIn keep) x [] (kept_path x [] (always 0 [] refl tt))
  in_rounds (suc k) x reached always =
      and_from (safe_round sys keep k x.state) (some_must_lead sys (safe_round sys keep k) x.state) (in_rounds k x reached always)
      (led_by sys ok plan complete (safe_round sys keep k) x reached (λ y step. in_rounds k y (reached_next sys plan x y reached step) (kept_next x y always step)))

  module _ (p : SetStage) (rest : List SetStage) (later : (x : Configuration) → Reached x → IsTrue rest x → until_win sys keep rest x.state ≡ true) where
    abbrev met : SetOfVectors
    met = until_met sys keep p rest

    abbrev Guarded : Configuration → Type 0
    Guarded = StateIsIn p.guard

    abbrev IsMet : Configuration → Type 0
    IsMet x = Satisfies Step StateIsIn (all (goal_row (plain p.target ∷ until_tree rest keep ∷ []))) x

    met_at : (x : Configuration) → Reached x → IsMet x → met x.state ≡ true
    met_at x reached h = and_from (p.target x.state) (until_win sys keep rest x.state) h.0 (later x reached h.1.0)

    abbrev MeetsIn : ℕ → Configuration → Type 0
    MeetsIn n x = (path : List Configuration) → length path ≡ n → IsPath Step x path → Meets Guarded IsMet (x ∷ path)

    -- where it isn't met yet, one step less is left to each configuration that follows
    meets_next : (n : ℕ) (x y : Configuration) → Reached x → met x.state ≡ false → MeetsIn (suc n) x → Step x y → MeetsIn n y
    meets_next n x y reached e meets step path long run =
        ⊎_elim
        (λ (h : IsMet x). absurd (true≢false (sym (met_at x reached h) ∙ e)))
        (λ (m : Guarded x × Meets Guarded IsMet (y ∷ path)). m.1)
        (meets_cases Guarded IsMet x (y ∷ path) (meets (y ∷ path) (ap suc long) (step, run)))

    -- and the state is one of the guard
    guard_now : (n : ℕ) (x : Configuration) → Reached x → met x.state ≡ false → MeetsIn (suc n) x → p.guard x.state ≡ true
    guard_now n x reached e meets =
        let way = some_path sys plan complete (suc n) x reached in
        ⊎_elim
        (λ (h : IsMet x). absurd (true≢false (sym (met_at x reached h) ∙ e)))
        (λ (m : Guarded x × Meets Guarded IsMet way.rest). m.0)
        (meets_cases Guarded IsMet x way.rest (meets way.rest way.long way.path))

    near_by : (n : ℕ) (x : Configuration) → Reached x → MeetsIn n x → guarded_near sys p.guard met n x.state ≡ true
    near_by zero x reached meets =
        ⊎_elim
        (λ (h : IsMet x). met_at x reached h)
        (λ (m : Guarded x × Meets Guarded IsMet []). absurd (meets_nothing Guarded IsMet m.1))
        (meets_cases Guarded IsMet x [] (meets [] refl tt))
    near_by (suc n) x reached meets = go (met x.state) refl (near_by n)
      where
        go : (b : Bool) → met x.state ≡ b → ((y : Configuration) → Reached y → MeetsIn n y → guarded_near sys p.guard met n y.state ≡ true) → guarded_near sys p.guard met (suc n) x.state ≡ true
        go true e closer = near-grows sys p.guard met x.state 0 (suc n) (omega arith) e
        go false e closer =
            or_right (guarded_near sys p.guard met n x.state) _
            (and_from (p.guard x.state) (some_must_lead sys (guarded_near sys p.guard met n) x.state) (guard_now n x reached e meets)
            (led_by sys ok plan complete (guarded_near sys p.guard met n) x reached (λ y step. closer y (reached_next sys plan x y reached step) (meets_next n x y reached e meets step))))

  pub until_won : (rest : List SetStage) (x : Configuration) → Reached x → IsTrue rest x → until_win sys keep rest x.state ≡ true
  until_won [] x reached h = in_rounds (2 ^ sys.fluents) x reached h
  until_won (p ∷ rest) x reached h =
      in_guarded_set sys p.guard (until_met sys keep p rest) ok h.steps x.state (reached_state sys plan ok x reached) (near_by p rest (until_won rest) h.steps x reached h.meets)

pub none_without_cover : (sys : System) (chain : UntilSets) → IsSystem sys → covers_until sys chain ≡ false → HasNoUntilPlan sys chain
none_without_cover sys chain ok short plan is = true≢false (sym covered ∙ short)
  where
    covered : covers_until sys chain ≡ true
    covered = list_all-from (until_win_at sys chain 1) sys.initial (λ s c.
        let x : Configuration = record { state = s; context = 1 } in
        let initial : IsInitial sys x = record { state = c; context = refl } in
        until_won sys ok chain.keep plan is.complete chain.stages x (reached_first sys plan x initial) (is.has x initial))
