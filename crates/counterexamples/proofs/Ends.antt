-- Where a run ends, by its last step.
use Rattle.std.proofs.Common.{◌≡◌, ℕ, suc, ◌-◌, List, [], ◌∷◌, length, Some, None, slice_get, refl, sym, ap, ◌∙◌, arith}
use Rattle.std.proofs.lemmas.Option.{none-some, same_Some}
use Rattle.task_core.specs.ContextPlans.{Configuration}
use Rattle.plan_witness.specs.Runs.{end_of}
use Rattle.plan_witness.specs.Values.{step_value, steps_value}
use Rattle.plan_witness.specs.declared.runs.RunStep.{RunStep}

pub last_step : (n : ℕ) (x : Configuration) (steps : List RunStep) (step : RunStep) → slice_get steps (length steps - 1) ≡ Some step
    → end_of x (steps_value n steps) ≡ (step_value n step).after
last_step n x [] step is = absurd (none-some step is)
last_step n x (s ∷ []) step is = ap (λ t. (step_value n t).after) (same_Some s step is)
last_step n x (s ∷ t ∷ rest) step is =
    let e : length (s ∷ t ∷ rest) - 1 ≡ suc (length (t ∷ rest) - 1) = omega arith in
    last_step n (step_value n s).after (t ∷ rest) step (ap (slice_get (s ∷ t ∷ rest)) (sym e) ∙ is)

pub no_step : (n : ℕ) (x : Configuration) (steps : List RunStep) → slice_get steps (length steps - 1) ≡ None → end_of x (steps_value n steps) ≡ x
no_step n x [] is = refl
no_step n x (s ∷ []) is = absurd (none-some s (sym is))
no_step n x (s ∷ t ∷ rest) is =
    let e : length (s ∷ t ∷ rest) - 1 ≡ suc (length (t ∷ rest) - 1) = omega arith in
    no_step n (step_value n s).after (t ∷ rest) (ap (slice_get (s ∷ t ∷ rest)) (sym e) ∙ is) ∙ absurd (some_last s t rest is)
  where
    some_last : (s t : RunStep) (rest : List RunStep) → slice_get (s ∷ t ∷ rest) (length (s ∷ t ∷ rest) - 1) ≡ None → ⊥
    some_last s t [] is = none-some t (sym is)
    some_last s t (u ∷ rest) is =
        let e : length (s ∷ t ∷ u ∷ rest) - 1 ≡ suc (length (t ∷ u ∷ rest) - 1) = omega arith in
        some_last t u rest (ap (slice_get (s ∷ t ∷ u ∷ rest)) (sym e) ∙ is)
