-- On a run with fair outcomes the goal's own path formula holds, where the plan has the goal by which
-- it is judged: what may always still be met isn't never met.
use Rattle.std.proofs.Common.{◌≡◌, ◌≤◌, ◌<◌, ℕ, suc, true, List, [], ◌∷◌, sym, subst, arith, ⊎_elim}
use Rattle.std.proofs.lemmas.Bool.{cases_lt}
use Rattle.ctl_syntax.specs.Goals.{plain, ef}
use Rattle.ctl_syntax.specs.Paths.{EveryPathKeeps, Meets, SomePathMeets}
use Rattle.ctl_syntax.specs.Truth.{Anything, Nothing, Satisfies}
use Rattle.ctl_syntax.proofs.Meeting.{meets_cases, meets_nothing}
use Rattle.task_core.specs.ContextPlans.{Configuration, ContextPlan, Follows, IsFinite}
use Rattle.task_core.specs.Cubes.{SetOfVectors}
use Rattle.task_core.specs.Paths.{IsPath}
use Rattle.task_core.specs.Systems.{System, IsSystem}
use Rattle.plan_theory.proofs.Steps.{along}
use Rattle.plan_theory.specs.UntilChains.{SetStage, StateIsIn}
use Rattle.fair_theory.specs.FairGoals.{both, fair_chain}
use Rattle.fair_theory.specs.FairPlans.{HasFairly}
use Rattle.fair_theory.specs.FairRuns.{ComesAgain, HasFairOutcomes, IsRun, RunHas, RunMeets, RunPatrols}
use Rattle.fair_theory.specs.FairSets.{SetGoal, chain_goal, patrol_goal}
use Rattle.fair_theory.proofs.NoFairPlan.{AllMay, kept_next, kept_now, one_may, weak_next, weak_now}
use Rattle.fair_theory.proofs.Recurring.{recurs}

module _ (sys : System) (ok : IsSystem sys) (plan : ContextPlan) (finite : IsFinite plan) (run : ℕ → Configuration) (is : IsRun sys plan run) (fair : HasFairOutcomes sys plan run) where
  abbrev Step : Configuration → Configuration → Type 0
  Step = Follows sys plan

  -- where the run comes again to a configuration from which something may be met, it isn't never met
  module _ (Made : Configuration → Type 0) (n : ℕ) (never : (m : ℕ) → n ≤ m → Made (run m) → ⊥) where
    not_again : (rest : List Configuration) (x : Configuration) → IsPath Step x rest → Meets Anything Made (x ∷ rest) → ComesAgain run x → ⊥
    not_again [] x path m again =
        ⊎_elim
        (λ (h : Made x). again n (λ k at. never k at.0 (subst Made (sym at.1) h)))
        (λ (l : Anything x × Meets Anything Made []). meets_nothing Anything Made l.1)
        (meets_cases Anything Made x [] m)
    not_again (y ∷ rest) x path m again =
        ⊎_elim
        (λ (h : Made x). again n (λ k at. never k at.0 (subst Made (sym at.1) h)))
        (λ (l : Anything x × Meets Anything Made (y ∷ rest)). not_again rest y path.1 l.1
        (λ j none. fair x y again path.0 j (λ k at. none (suc k) ((let l = at.0 in omega arith), at.2))))
        (meets_cases Anything Made x (y ∷ rest) m)

    -- so it may not always still be met
    pub not_always : ((m : ℕ) → n ≤ m → SomePathMeets Step Anything Made (run m)) → ⊥
    not_always may =
        recurs sys ok plan run is finite
        (λ x again. again n (λ k at.
        let way = subst (SomePathMeets Step Anything Made) at.1 (may k at.0) in
        not_again way.rest x way.path way.meets again))

  kept_on : (G : Configuration → Type 0) (n : ℕ) → EveryPathKeeps Step G Nothing (run n) → (m : ℕ) → n ≤ m → G (run m)
  kept_on G n every m le =
      kept_now Step G (run m)
      (along (λ k. EveryPathKeeps Step G Nothing (run k)) n every (λ k after h. kept_next Step G (run k) (run (suc k)) h (is.follows k)) m le)

  module _ (keep : SetOfVectors) where
    abbrev IsTrueAt : List SetStage → ℕ → Type 0
    IsTrueAt stages n = Satisfies Step StateIsIn (fair_chain stages keep) (run n)

    module _ (stage : SetStage) (rest : List SetStage) (later : (m : ℕ) → IsTrueAt rest m → RunMeets run keep rest m) (n : ℕ) (none : (m : ℕ) → (n ≤ m) × ((k : ℕ) → n ≤ k → k < m → stage.guard (run k).state ≡ true) × (stage.target (run m).state ≡ true) × RunMeets run keep rest m → ⊥) where
      abbrev IsMet : Configuration → Type 0
      IsMet = Satisfies Step StateIsIn (both (plain stage.target) (fair_chain rest keep))

      abbrev Held : Configuration → Type 0
      Held = Satisfies Step StateIsIn (both (plain stage.guard) (ef (both (plain stage.target) (fair_chain rest keep))))

      -- the goal is true at the place, and until there the guard held
      record UnmetTo (m : ℕ) : Type 0 where
        is_true : EveryPathKeeps Step Held IsMet (run m)
        guarded : (k : ℕ) → n ≤ k → k < m → stage.guard (run k).state ≡ true

      never : (m : ℕ) → n ≤ m → UnmetTo m → IsMet (run m) → ⊥
      never m le unmet met = none m (le, unmet.guarded, met.0, later m met.1.0)

      held : (m : ℕ) → n ≤ m → UnmetTo m → Held (run m)
      held m le unmet = ⊎_elim (λ met. absurd (never m le unmet met)) (λ h. h) (weak_now Step Held IsMet (run m) unmet.is_true)

      guard_on : (m : ℕ) → n ≤ m → UnmetTo m → (k : ℕ) → n ≤ k → k < suc m → stage.guard (run k).state ≡ true
      guard_on m le unmet k from to =
          ⊎_elim
          (λ (s : k < m). unmet.guarded k from s)
          (λ (s : m ≤ k). let e : m ≡ k = omega arith in subst (λ j. stage.guard (run j).state ≡ true) e (held m le unmet).0)
          (cases_lt k m)

      unmet_on : (m : ℕ) → n ≤ m → UnmetTo m → UnmetTo (suc m)
      unmet_on m le unmet = record {
        is_true = weak_next Step Held IsMet (run m) (run (suc m)) unmet.is_true (never m le unmet) (is.follows m);
        guarded = guard_on m le unmet;
      }

      unmet_from : EveryPathKeeps Step Held IsMet (run n) → (m : ℕ) → n ≤ m → UnmetTo m
      unmet_from every = along UnmetTo n (record { is_true = every; guarded = λ k from to. absurd (omega arith) }) unmet_on

      pub not_unmet : EveryPathKeeps Step Held IsMet (run n) → ⊥
      not_unmet every =
          not_always IsMet n
          (λ m le met. never m le (unmet_from every m le) met)
          (λ m le. (held m le (unmet_from every m le)).1.0)

    pub chain_law : (stages : List SetStage) (n : ℕ) → IsTrueAt stages n → RunMeets run keep stages n
    chain_law [] n every = λ m le. kept_on (StateIsIn keep) n every m le
    chain_law (stage ∷ rest) n every = λ none. not_unmet stage rest (chain_law rest) n none every

  pub patrol_law : (visits : List SetOfVectors) → HasFairly sys plan (patrol_goal visits) (run 0) → RunPatrols run visits
  patrol_law visits every visit among n none =
      not_always (StateIsIn visit) n
      (λ m le made. none m (le, made))
      (λ m le. one_may sys plan visits visit (run m) (kept_on (AllMay sys plan visits) 0 every m (omega arith)) among)

  pub run_has : (goal : SetGoal) → HasFairly sys plan goal (run 0) → RunHas run goal
  run_has (chain_goal chain) h = chain_law chain.keep chain.stages 0 h
  run_has (patrol_goal visits) h = patrol_law visits h

pub fair_runs : (sys : System) (goal : SetGoal) (plan : ContextPlan) (run : ℕ → Configuration) → IsSystem sys → IsFinite plan → IsRun sys plan run → HasFairOutcomes sys plan run → HasFairly sys plan goal (run 0) → RunHas run goal
fair_runs sys goal plan run ok finite is fair h = run_has sys ok plan finite run is fair goal h
