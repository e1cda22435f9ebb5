use Rattle.std.proofs.Common.{◌≡◌, ℕ, ◌+◌, ◌++◌, List, map, take, length, get_or, ap, sym, ◌∙◌, append_assoc, arith}
use Rattle.std.proofs.lemmas.Simd.{map-map}
use Rattle.task_core.specs.Names.{name_bytes}
use Rattle.plan_rules.specs.Plans.{IsCubeOf}
use Rattle.plan_rules.specs.Rules.{PlanCase, case_of}
use Rattle.plan_rules.specs.Texts.{case_text, spaced, gap}
use Rattle.plan_rules.specs.declared.rules.Case.{Case}
use Rattle.plan_rules.proofs.MappedItems.{mapped_item}
use Rattle.plan_rules.proofs.Spaced.{spaced_more}
use Rattle.plan_rules.proofs.text.push_cases.Goals as goal

pub push_case-requires : goal.push_case-requires
push_case-requires c =
    mapped_item (λ (case : PlanCase). IsCubeOf (length c.args.fluents.now) case.cube) case_of c.args.cases.now c.loop-i.i c.index-cases-i.result c.requires c.loop-i-test.true c.index-cases-i.is

pub loop-i-preserved : goal.loop-i-preserved
loop-i-preserved c =
    let f : PlanCase → List ℕ = case_text (map name_bytes c.args.fluents.now) in
    let cases = c.args.cases.now in
    let i = c.loop-i.i in
    let both : (xs : List Case) → spaced (map f (map case_of xs)) ≡ spaced (map (λ (x : Case). f (case_of x)) xs) = λ xs. ap spaced (map-map f case_of xs) in
    let step = spaced_more (λ (x : Case). f (case_of x)) cases i c.index-cases-i.result c.loop-i-test.true in
    let more : spaced (map f (map case_of (take (i + 1) cases))) ≡ (spaced (map f (map case_of (take i cases))) ++ gap i) ++ f (case_of (get_or cases i c.index-cases-i.result)) =
    both (take (i + 1) cases) ∙ (step ∙ ap (λ t. (t ++ gap i) ++ f (case_of (get_or cases i c.index-cases-i.result))) (sym (both (take i cases)))) in
    grind (arith, append_assoc, more, c.loop-i.invariant, c.in_ok-push_gap.ensures, c.in_ok-push_case.ensures, c.index-cases-i.is)
