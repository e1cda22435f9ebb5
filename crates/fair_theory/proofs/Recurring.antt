-- A run of a plan with finitely many contexts has finitely many configurations; so it isn't so that it
-- comes to none of them infinitely often.
use Rattle.std.proofs.Common.{◌≡◌, ◌+◌, ◌≤◌, ◌<◌, ℕ, zero, suc, List, [], ◌∷◌, length, sym, ◌∙◌, arith, ⊎_elim}
use Rattle.std.specs.Prelude.{flat_map, map}
use Rattle.std.specs.List.{Contains, range_with_len}
use Rattle.std.proofs.lemmas.Bool.{cases_lt}
use Rattle.std.proofs.lemmas.Option.{none-some}
use Rattle.list_laws.proofs.Elements.{Contains-cases, Contains-flat_map, Contains-map, Contains-nil, Contains-range_with_len}
use Rattle.task_core.specs.ContextPlans.{Configuration, ContextPlan, IsFinite}
use Rattle.task_core.specs.Systems.{System, IsSystem, IsVector}
use Rattle.task_core.specs.Vectors.{Vector, all_vectors}
use Rattle.task_core.proofs.Vectors.{all_vectors_has}
use Rattle.fair_theory.specs.FairRuns.{ComesAgain, IsRun}

-- a run all of whose configurations, from place n on, are among those of a list, comes to one of them
-- infinitely often
module _ (run : ℕ → Configuration) where
  pub some_recurs : (among : List Configuration) (n : ℕ) → ((m : ℕ) → n ≤ m → Contains among (run m)) → ((x : Configuration) → ComesAgain run x → ⊥) → ⊥
  some_recurs [] n each none = Contains-nil (run n) (each n (omega arith))
  some_recurs (x ∷ among) n each none = none x (λ k never. some_recurs among (n + k) (later k never) none)
    where
      later : (k : ℕ) → ((m : ℕ) → (k ≤ m) × (run m ≡ x) → ⊥) → (m : ℕ) → n + k ≤ m → Contains among (run m)
      later k never m le =
          ⊎_elim
          (λ (same : x ≡ run m). absurd (never m ((omega arith), sym same)))
          (λ (c : Contains among (run m)). c)
          (Contains-cases x among (run m) (each m (omega arith)))

-- the configurations of a context, and of the contexts below a bound
at_context : ℕ → ℕ → List Configuration
at_context fluents c = map (λ (v : Vector). record { state = v; context = c }) (all_vectors fluents)

configurations : ℕ → ℕ → List Configuration
configurations fluents bound = flat_map (at_context fluents) (range_with_len 0 bound)

has_configuration : (fluents bound : ℕ) (x : Configuration) → length x.state ≡ fluents → x.context < bound → Contains (configurations fluents bound) x
unfolding configurations at_context
has_configuration fluents bound x long low =
    Contains-flat_map (at_context fluents) (range_with_len 0 bound) x.context x (Contains-range_with_len bound x.context low)
    (Contains-map (λ (v : Vector). record { state = v; context = x.context }) (all_vectors fluents) x.state (all_vectors_has fluents x.state long))

module _ (sys : System) (ok : IsSystem sys) (plan : ContextPlan) (run : ℕ → Configuration) (is : IsRun sys plan run) where
  run_vector : (n : ℕ) → IsVector sys (run n).state
  run_vector zero = (ok.initial (run 0).state is.initial.state).vector
  run_vector (suc n) =
      let step = is.follows n in
      (ok.next (run n).state step.action (run (suc n)).state step.outcome).vector

  run_context : (finite : IsFinite plan) (n : ℕ) → (run n).context < finite.0
  run_context finite n =
      let step = is.follows n in
      ⊎_elim
      (λ (low : (run n).context < finite.0). low)
      (λ (high : finite.0 ≤ (run n).context). absurd (none-some step.action (sym (finite.1 (run n).state (run n).context high) ∙ step.acts)))
      (cases_lt (run n).context finite.0)

  pub recurs : IsFinite plan → ((x : Configuration) → ComesAgain run x → ⊥) → ⊥
  recurs finite = some_recurs run (configurations sys.fluents finite.0) 0 (λ m le. has_configuration sys.fluents finite.0 (run m) (run_vector m) (run_context finite m))
