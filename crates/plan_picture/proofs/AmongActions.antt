-- The steps by the actions of the rules that match a state.
use Rattle.std.proofs.Common.{◌≡◌, ◌+◌, ◌++◌, ℕ, suc, Bool, true, false, List, [], append-nil, arith, cond, ap, sym, ◌∙◌}
use Rattle.task_core.specs.Vectors.{Vector}
use Rattle.plan_rules.specs.Denoted.{advises}
use Rattle.plan_rules.specs.Rules.{PlanRule}
use Rattle.task_core.specs.ContextPlans.{Configuration}
use Rattle.task_core.specs.Systems.{System}
use Rattle.plan_picture.specs.Pictures.{PlainStep}
use Rattle.plan_picture.specs.Places.{advised_in_table, steps_by, table_steps_below}

-- the steps by one action more, where some rule that matches has it, and where none does
pub more_steps : (sys : System) (places : List Configuration) (rules : List PlanRule) (s : Vector) (k : ℕ) (old new : List PlainStep) → advises rules s k ≡ true
    → old ≡ table_steps_below sys places rules s k → new ≡ old ++ steps_by sys places s (advised_in_table k) → new ≡ table_steps_below sys places rules s (k + 1)
more_steps sys places rules s k old new has before grown =
    let next : suc k ≡ k + 1 = omega arith in
    grown ∙ ap (λ (steps : List PlainStep). steps ++ steps_by sys places s (advised_in_table k)) before
    ∙ ap (λ (b : Bool). table_steps_below sys places rules s k ++ cond b (steps_by sys places s (advised_in_table k)) []) (sym has)
    ∙ ap (table_steps_below sys places rules s) next

pub no_more_steps : (sys : System) (places : List Configuration) (rules : List PlanRule) (s : Vector) (k : ℕ) (old : List PlainStep) → advises rules s k ≡ false
    → old ≡ table_steps_below sys places rules s k → old ≡ table_steps_below sys places rules s (k + 1)
no_more_steps sys places rules s k old lacks before =
    let next : suc k ≡ k + 1 = omega arith in
    before ∙ sym (append-nil (table_steps_below sys places rules s k))
    ∙ ap (λ (b : Bool). table_steps_below sys places rules s k ++ cond b (steps_by sys places s (advised_in_table k)) []) (sym lacks)
    ∙ ap (table_steps_below sys places rules s) next
