-- Which rule of a plan counts, where a run is in a state and a context, or in none.
use Rattle.std.specs.Prelude.{◌≡◌, ℕ, List, Option, Some}
use Rattle.task_core.specs.Vectors.{Vector}
use Rattle.plan_rules.specs.Rules.{ContextRule}
use Rattle.plan_witness.specs.Runs.{IsCounting}

-- the rule of this number, counted from 0, has this action and counts there: it is the first of the context
-- that matches the state
pub record CountsThere (rules : List ContextRule) (s : Vector) (c : Option ℕ) (number action : ℕ)
    : Type 0 where
  pub context : ℕ
  pub there : c ≡ Some context
  pub rule : ContextRule
  pub counts : IsCounting rules (record { state = s; context = context }) number rule
  pub acts : rule.action ≡ action
