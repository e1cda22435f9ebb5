-- Plans for an until-chain.
use Rattle.std.specs.Prelude.{◌≡◌, ℕ, ◌≤◌, true, Some}
use Rattle.task_core.specs.ContextPlans.{Configuration, ContextPlan, IsComplete, IsInitial}
use Rattle.task_core.specs.Systems.{System, IsVector}
use Rattle.task_core.specs.Vectors.{Vector}
use Rattle.plan_theory.specs.UntilChains.{HasUntil, UntilSets, until_advance}
use Rattle.plan_theory.specs.UntilChains.{until_contexts, until_win_at}
use Rattle.plan_theory.specs.UntilPrinted.{until_action}

-- the plan goes on at each configuration that it may reach, and each initial one has the until-chain
pub record IsUntilPlan (sys : System) (chain : UntilSets) (plan : ContextPlan) : Type 0 where
  pub complete : IsComplete sys plan
  pub has : (x : Configuration) → IsInitial sys x → HasUntil sys plan chain x

-- no plan with contexts is one, whatever its contexts are and however many
abbrev pub HasNoUntilPlan : System → UntilSets → Type 0
HasNoUntilPlan sys chain = (plan : ContextPlan) → IsUntilPlan sys chain plan → ⊥

-- in each state of each of its contexts the plan turns to the first stage that isn't met: it takes
-- the action towards that stage, and goes on in its context
pub record ActsAsUntil (sys : System) (chain : UntilSets) (plan : ContextPlan) : Type 0 where
  pub acts : (v : Vector) (c : ℕ) → IsVector sys v → 1 ≤ c → c ≤ until_contexts chain
      → until_win_at sys chain c v ≡ true
      → plan.act v c ≡ until_action sys chain (until_advance sys chain c v) v
  pub goes_on : (v : Vector) (c : ℕ) (t : Vector) → IsVector sys v → 1 ≤ c
      → c ≤ until_contexts chain → until_win_at sys chain c v ≡ true
      → plan.ctxt v c t ≡ Some (until_advance sys chain c v)
