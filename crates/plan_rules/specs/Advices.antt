-- What a rule says where it counts: an action, and the context in which the plan goes on.
use Rattle.std.specs.Prelude.{ℕ, ◌<◌, map, All, ⊤}
use Rattle.plan_rules.specs.Plans.{IsCubeOf}
use Rattle.plan_rules.specs.Rules.{PlanNext, PlanCase, ContextRule, always, by_cases, case_of}
use Rattle.plan_rules.specs.declared.following.Advice.{Advice}
use Rattle.plan_rules.specs.declared.following.Onward.{Onward}
use Rattle.plan_rules.specs.declared.following.Onward.TheVariants.{Always, ByCases}

-- an action and the next context
pub record Advised : Type 0 where
  pub action : ℕ
  pub next : PlanNext

-- what a rule of an automaton says
abbrev pub advised_by : ContextRule → Advised
advised_by rule = record { action = rule.action; next = rule.next }

-- the next context, as the code holds it
abbrev pub onward_value : Onward → PlanNext
onward_value (Always context) = always context
onward_value (ByCases cases) = by_cases (map case_of cases.now)

-- what a rule says, as the code holds it
abbrev pub advice_value : Advice → Advised
advice_value a = record { action = a.action.0; next = onward_value a.onward }

-- the cases name fluents below n alone
abbrev pub AreCasesOf : ℕ → PlanNext → Type 0
AreCasesOf n (always context) = ⊤
AreCasesOf n (by_cases cases) = All (λ (case : PlanCase). IsCubeOf n case.cube) cases

-- the action is one of m, and the cases name fluents below n alone
pub record IsAdviceOf (n m : ℕ) (a : Advice) : Type 0 where
  pub action : a.action.0 < m
  pub cases : AreCasesOf n (onward_value a.onward)
