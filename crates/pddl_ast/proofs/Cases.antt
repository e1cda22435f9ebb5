-- A formula and an effect by what the word at the head means.
use Rattle.std.proofs.Common.{ℕ, ◌==◌, List, [], ◌∷◌, if◌then◌else◌}
use Rattle.sexpr_text.specs.declared.forms.Span.{Span}
use Rattle.sexpr_text.specs.declared.faults.FaultKind.TheVariants.{EmptyOneof}
use Rattle.sexpr_text.specs.Forest.{Forest, word}
use Rattle.sexpr_text.specs.Flaws.{Flaw, flaw_at}
use Rattle.pddl_ast.specs.declared.keywords.Keyword.TheVariants.{And, Or, Not, Imply, Exists, Forall, Equals, When, Oneof, Unknown, Other}
use Rattle.pddl_ast.specs.Words.{keyword_of}
use Rattle.pddl_ast.specs.Known.{Known}
use Rattle.pddl_ast.specs.Atoms.{count, terms_flaws, terms_of, atom_flaws, predicate_number}
use Rattle.pddl_ast.specs.Trees.{FormulaTree, atom, all, any, negation, exists, forall, formula_row, EffectTree, add, both, one_of, effect_row}
use Rattle.pddl_ast.specs.Formulas.{always, bad_list, formulas_flaws, formulas_of, formula_flaws, formula_of, quantifier_flaws, quantified_of, first_formula, implication_of, equality_of}
use Rattle.pddl_ast.specs.Effects.{no_change, effects_flaws, effects_of, effect_flaws, effect_of, deleted_flaws, deleted_of, when_flaws, when_of, each_flaws, each_of}

-- what holds of each case of a formula holds of the formula
pub formula_cases : (P : List Flaw → FormulaTree → Type 0) (known : Known) (span head : Span) (w : List ℕ) (parts : Forest) (scope : List (List ℕ))
    → P (formulas_flaws known parts scope) (all (formula_row (formulas_of known parts scope)))
    → P (formulas_flaws known parts scope) (any (formula_row (formulas_of known parts scope)))
    → P (if count parts == 1 then formulas_flaws known parts scope else bad_list span) (negation (first_formula (formulas_of known parts scope)))
    → P (if count parts == 2 then formulas_flaws known parts scope else bad_list span) (implication_of (formulas_of known parts scope))
    → P (quantifier_flaws known parts span scope) (quantified_of known parts scope (λ types body. exists types body))
    → P (quantifier_flaws known parts span scope) (quantified_of known parts scope (λ types body. forall types body))
    → P (if count parts == 2 then terms_flaws known scope parts else bad_list span) (equality_of (terms_of known scope parts))
    → P (bad_list span) always
    → P (atom_flaws known scope span head w parts) (atom (predicate_number known w) (terms_of known scope parts))
    → P (formula_flaws known (word head w parts) span scope) (formula_of known (word head w parts) scope)
formula_cases P known span head w parts scope p_all p_any p_not p_imply p_exists p_forall p_equal p_bad p_atom =
    elim (keyword_of w) as (λ k. P
    (elim k [
      | And ↦ formulas_flaws known parts scope
      | Or ↦ formulas_flaws known parts scope
      | Not ↦ if count parts == 1 then formulas_flaws known parts scope else bad_list span
      | Imply ↦ if count parts == 2 then formulas_flaws known parts scope else bad_list span
      | Exists ↦ quantifier_flaws known parts span scope
      | Forall ↦ quantifier_flaws known parts span scope
      | Equals ↦ if count parts == 2 then terms_flaws known scope parts else bad_list span
      | When ↦ bad_list span
      | Oneof ↦ bad_list span
      | Unknown ↦ bad_list span
      | Other ↦ atom_flaws known scope span head w parts
    ])
    (elim k [
      | And ↦ all (formula_row (formulas_of known parts scope))
      | Or ↦ any (formula_row (formulas_of known parts scope))
      | Not ↦ negation (first_formula (formulas_of known parts scope))
      | Imply ↦ implication_of (formulas_of known parts scope)
      | Exists ↦ quantified_of known parts scope (λ types body. exists types body)
      | Forall ↦ quantified_of known parts scope (λ types body. forall types body)
      | Equals ↦ equality_of (terms_of known scope parts)
      | When ↦ always
      | Oneof ↦ always
      | Unknown ↦ always
      | Other ↦ atom (predicate_number known w) (terms_of known scope parts)
    ])) [
      | And ↦ p_all
      | Or ↦ p_any
      | Not ↦ p_not
      | Imply ↦ p_imply
      | Exists ↦ p_exists
      | Forall ↦ p_forall
      | Equals ↦ p_equal
      | When ↦ p_bad
      | Oneof ↦ p_bad
      | Unknown ↦ p_bad
      | Other ↦ p_atom
    ]

-- what holds of each case of an effect holds of the effect
pub effect_cases : (P : List Flaw → EffectTree → Type 0) (known : Known) (span head : Span) (w : List ℕ) (parts : Forest) (scope : List (List ℕ))
    → P (effects_flaws known parts scope) (both (effect_row (effects_of known parts scope)))
    → P (deleted_flaws known parts span scope) (deleted_of known parts scope)
    → P (each_flaws known parts span scope) (each_of known parts scope)
    → P (when_flaws known parts span scope) (when_of known parts scope)
    → P (if count parts == 0 then flaw_at span EmptyOneof ∷ [] else effects_flaws known parts scope) (one_of (effect_row (effects_of known parts scope)))
    → P (bad_list span) no_change
    → P (atom_flaws known scope span head w parts) (add (predicate_number known w) (terms_of known scope parts))
    → P (effect_flaws known (word head w parts) span scope) (effect_of known (word head w parts) scope)
effect_cases P known span head w parts scope p_both p_not p_each p_when p_oneof p_bad p_atom =
    elim (keyword_of w) as (λ k. P
    (elim k [
      | And ↦ effects_flaws known parts scope
      | Or ↦ bad_list span
      | Not ↦ deleted_flaws known parts span scope
      | Imply ↦ bad_list span
      | Exists ↦ bad_list span
      | Forall ↦ each_flaws known parts span scope
      | Equals ↦ bad_list span
      | When ↦ when_flaws known parts span scope
      | Oneof ↦ if count parts == 0 then flaw_at span EmptyOneof ∷ [] else effects_flaws known parts scope
      | Unknown ↦ bad_list span
      | Other ↦ atom_flaws known scope span head w parts
    ])
    (elim k [
      | And ↦ both (effect_row (effects_of known parts scope))
      | Or ↦ no_change
      | Not ↦ deleted_of known parts scope
      | Imply ↦ no_change
      | Exists ↦ no_change
      | Forall ↦ each_of known parts scope
      | Equals ↦ no_change
      | When ↦ when_of known parts scope
      | Oneof ↦ one_of (effect_row (effects_of known parts scope))
      | Unknown ↦ no_change
      | Other ↦ add (predicate_number known w) (terms_of known scope parts)
    ])) [
      | And ↦ p_both
      | Or ↦ p_bad
      | Not ↦ p_not
      | Imply ↦ p_bad
      | Exists ↦ p_bad
      | Forall ↦ p_each
      | Equals ↦ p_bad
      | When ↦ p_when
      | Oneof ↦ p_oneof
      | Unknown ↦ p_bad
      | Other ↦ p_atom
    ]
