-- The rules of a guide as plain rules.
use Rattle.std.specs.Prelude.{ℕ, List, map, ⊤}
use Rattle.plan_rules.specs.Rules.{ContextRule, PlanNext, always, by_cases, case_of}
use Rattle.plan_rules.specs.declared.rules.Case.{Case}
use Rattle.cube_index.specs.Index.{IsIndexOf}
use Rattle.rule_lookup.specs.declared.cases.GuideCases.{GuideCases}
use Rattle.rule_lookup.specs.declared.rules.GuideNext.{GuideNext}
use Rattle.rule_lookup.specs.declared.rules.GuideNext.TheVariants.{Always, ByCases}
use Rattle.rule_lookup.specs.declared.rules.GuideRule.{GuideRule}

-- the next context: always this one, or by cases
abbrev pub next_value : GuideNext → PlanNext
next_value (Always context) = always context
next_value (ByCases some) = by_cases (map case_of some.cases.now)

abbrev pub rule_value : GuideRule → ContextRule
rule_value r =
    record { context = r.context; cube = r.cube.now; action = r.action.0; next = next_value r.onward }

-- the cases have the index of their cubes
abbrev pub AreIndexed : GuideCases → Type 0
AreIndexed some = IsIndexOf some.index (map (λ (case : Case). case.cube.items) some.cases.now)

abbrev pub IsNextIndexed : GuideNext → Type 0
IsNextIndexed (Always context) = ⊤
IsNextIndexed (ByCases some) = AreIndexed some
