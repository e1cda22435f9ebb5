-- Goals in computation tree logic without flaws fit what is known, and are no deeper than their
-- forms, with one more for the formulas in them.
use Rattle.std.proofs.Common.{◌≡◌, ℕ, ◌+◌, ◌≤◌, ◌==◌, List, [], ◌∷◌, length, refl, ◌∙◌, arith, if◌then◌else◌}
use Rattle.sexpr_text.specs.declared.forms.Span.{Span}
use Rattle.sexpr_text.specs.declared.faults.FaultKind.TheVariants.{BadForm, QuantifiedGoal}
use Rattle.sexpr_text.specs.Forest.{Forest, nothing, word, group}
use Rattle.sexpr_text.specs.Formed.{nesting_of}
use Rattle.sexpr_text.specs.Flaws.{flaw_at}
use Rattle.pddl_ast.specs.Known.{Known}
use Rattle.pddl_ast.specs.Trees.{TemporalTree, temporal_row}
use Rattle.pddl_ast.specs.Atoms.{count}
use Rattle.pddl_ast.specs.Formulas.{bad_list, formula_of}
use Rattle.pddl_ast.specs.Goals.{quantifies_operator, plain_flaws, formula_goal, first_temporal, second_temporal, temporals_flaws, temporals_of, temporal_flaws, temporal_of}
use Rattle.pddl_ast.specs.Depth.{formula_depth, temporal_depth, temporals_depth}
use Rattle.pddl_ast.specs.Fits.{IsKnown, FitsTemporal, FitsTemporals}
use Rattle.pddl_ast.proofs.Fitting.{no_first, no_second, where_true, where_false, same_number}
use Rattle.pddl_ast.proofs.GoalCases.{temporal_cases}
use Rattle.pddl_ast.proofs.TreeFitting.{formula-fits}

-- a goal that fits without free variables, and is at most so deep
abbrev GoalAt : Known → ℕ → TemporalTree → Type 0
GoalAt known d g = FitsTemporal known g 0 × (temporal_depth g ≤ d)

-- a row of them, of this length
abbrev GoalsAt : Known → ℕ → ℕ → List TemporalTree → Type 0
GoalsAt known d k gs = FitsTemporals known (temporal_row gs) 0 × (temporals_depth (temporal_row gs) ≤ d) × (length gs ≡ k)

-- the first of a row
one-at : (known : Known) (d : ℕ) (gs : List TemporalTree) → GoalsAt known d 1 gs → GoalAt known d (first_temporal gs)
one-at known d [] (h, g, e) = absurd (omega arith)
one-at known d (f ∷ gs) (h, g, e) = (h.0, omega arith)

-- the first and the second of a row
two-at : (known : Known) (d : ℕ) (gs : List TemporalTree) → GoalsAt known d 2 gs → GoalAt known d (first_temporal gs) × GoalAt known d (second_temporal gs)
two-at known d [] (h, g, e) = absurd (omega arith)
two-at known d (f ∷ []) (h, g, e) = absurd (omega arith)
two-at known d (f ∷ (g ∷ gs)) (h, k, e) = ((h.0, omega arith), (h.1.0, omega arith))

-- a formula of a goal
plain-fits : (known : Known) (parts : Forest) (span : Span) → IsKnown known → plain_flaws known parts span ≡ [] → GoalAt known (2 + nesting_of parts) (formula_goal known parts)
plain-fits known parts span ok h =
    let f = formula-fits known parts span [] ok h in
    let d : formula_depth (formula_of known parts []) ≤ 1 + nesting_of parts = f.1 in
    (f.0, omega arith)

mutual
  temporals-fit : (known : Known) (row : Forest) → IsKnown known → temporals_flaws known row ≡ [] → GoalsAt known (1 + nesting_of row) (count row) (temporals_of known row)
  temporals-fit known nothing ok h = (tt {0}, omega arith, refl)
  temporals-fit known (word span w rest) ok h = cc
  temporals-fit known (group span parts rest) ok h =
      let first = temporal-fits known parts span ok (no_first (temporal_flaws known parts span) (temporals_flaws known rest) h) in
      let later = temporals-fit known rest ok (no_second (temporal_flaws known parts span) (temporals_flaws known rest) h) in
      let deep : temporal_depth (temporal_of known parts) ≤ 2 + nesting_of parts = first.1 in
      let deeper : temporals_depth (temporal_row (temporals_of known rest)) ≤ 1 + nesting_of rest = later.1 in
      ((first.0, later.0), omega arith, (let e : length (temporals_of known rest) ≡ count rest = later.2 in omega arith))

  pub temporal-fits : (known : Known) (parts : Forest) (span : Span) → IsKnown known → temporal_flaws known parts span ≡ []
      → GoalAt known (2 + nesting_of parts) (temporal_of known parts)
  temporal-fits known nothing span ok h = plain-fits known nothing span ok h
  temporal-fits known (group inner parts rest) span ok h = cc
  temporal-fits known (word head w parts) span ok h =
      let row : temporals_flaws known parts ≡ [] → GoalsAt known (1 + nesting_of parts) (count parts) (temporals_of known parts)
      = temporals-fit known parts ok in
      let one : (if count parts == 1 then temporals_flaws known parts else bad_list span) ≡ [] → GoalAt known (1 + nesting_of parts) (first_temporal (temporals_of known parts))
      = λ h. let p = where_true (flaw_at span BadForm) (temporals_flaws known parts) (count parts == 1) h in
      let r = row p.1 in
      one-at known (1 + nesting_of parts) (temporals_of known parts) (r.0, r.1, r.2 ∙ same_number (count parts) 1 p.0) in
      let two : (if count parts == 2 then temporals_flaws known parts else bad_list span) ≡ []
      → GoalAt known (1 + nesting_of parts) (first_temporal (temporals_of known parts)) × GoalAt known (1 + nesting_of parts) (second_temporal (temporals_of known parts))
      = λ h. let p = where_true (flaw_at span BadForm) (temporals_flaws known parts) (count parts == 2) h in
      let r = row p.1 in
      two-at known (1 + nesting_of parts) (temporals_of known parts) (r.0, r.1, r.2 ∙ same_number (count parts) 2 p.0) in
      let plain = plain-fits known (word head w parts) span ok in
      temporal_cases (λ flaws tree. flaws ≡ [] → GoalAt known (2 + nesting_of parts) tree) known span head w parts
      (λ operator h. let f = one h in let d : temporal_depth (first_temporal (temporals_of known parts)) ≤ 1 + nesting_of parts = f.1 in (f.0, omega arith))
      (λ operator h. let f = two h in
      let d : temporal_depth (first_temporal (temporals_of known parts)) ≤ 1 + nesting_of parts = f.0.1 in
      let e : temporal_depth (second_temporal (temporals_of known parts)) ≤ 1 + nesting_of parts = f.1.1 in
      ((f.0.0, f.1.0), omega arith))
      (λ h. let r = row h in let d : temporals_depth (temporal_row (temporals_of known parts)) ≤ 1 + nesting_of parts = r.1 in (r.0, omega arith))
      (λ h. let r = row h in let d : temporals_depth (temporal_row (temporals_of known parts)) ≤ 1 + nesting_of parts = r.1 in (r.0, omega arith))
      (λ h. let f = one h in let d : temporal_depth (first_temporal (temporals_of known parts)) ≤ 1 + nesting_of parts = f.1 in (f.0, omega arith))
      (λ h. let f = two h in
      let d : temporal_depth (first_temporal (temporals_of known parts)) ≤ 1 + nesting_of parts = f.0.1 in
      let e : temporal_depth (second_temporal (temporals_of known parts)) ≤ 1 + nesting_of parts = f.1.1 in
      ((f.0.0, f.1.0), omega arith))
      (λ h. plain (where_false (flaw_at span QuantifiedGoal) (plain_flaws known (word head w parts) span) (quantifies_operator parts) h).1)
      plain
      h
