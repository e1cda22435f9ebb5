-- The cubes of cases, and of what a rule says of the next context.
use Rattle.std.proofs.Common.{ℕ, List, map}
use Rattle.std.specs.List.{All}
use Rattle.plan_rules.specs.declared.rules.Case.{Case}
use Rattle.plan_rules.specs.Advices.{AreCasesOf}
use Rattle.plan_rules.specs.Plans.{IsCubeOf, IsNextOf}
use Rattle.plan_rules.specs.Rules.{PlanCase, PlanNext, always, by_cases, case_of}
use Rattle.list_laws.proofs.Elements.{All-unmap}

pub cubes_of_cases : (n : ℕ) (cases : List Case) → All (λ (case : PlanCase). IsCubeOf n case.cube) (map case_of cases)
    → All (λ (case : Case). IsCubeOf n case.cube.items) cases
cubes_of_cases n cases all k d lt = All-unmap (λ (case : PlanCase). IsCubeOf n case.cube) case_of cases all k d lt

pub cases_of_next : (n contexts : ℕ) (next : PlanNext) → IsNextOf n contexts next → AreCasesOf n next
cases_of_next n contexts (always context) h = tt
cases_of_next n contexts (by_cases cases) h = λ k d lt. (h k d lt).cube
