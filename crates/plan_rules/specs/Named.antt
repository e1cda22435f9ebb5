-- Private: that a plan's parts name only fluents and actions that are there, which is what a text
-- needs.
use Rattle.std.specs.Prelude.{ℕ, ◌<◌, All, ⊤}
use Rattle.plan_rules.specs.Plans.{IsCubeOf}
use Rattle.plan_rules.specs.Rules.{PlanCase, PlanNext, always, by_cases, ContextRule}

-- Private: each fluent of the cases is among so many
abbrev pub NamesNext : ℕ → PlanNext → Type 0
NamesNext fluents (always context) = ⊤
NamesNext fluents (by_cases cases) = All (λ (case : PlanCase). IsCubeOf fluents case.cube) cases

-- Private: each fluent and the action are among so many
pub record NamesRule (fluents actions : ℕ) (rule : ContextRule) : Type 0 where
  pub cube : IsCubeOf fluents rule.cube
  pub action : rule.action < actions
  pub next : NamesNext fluents rule.next
