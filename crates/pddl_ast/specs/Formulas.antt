-- Formulas: what is wrong in one, and the tree that it is.
--
-- A formula is a list. `()` is true; `and`, `or`, `not`, `imply`, `exists`, `forall` and `=` have
-- their usual meaning; `when`, `oneof` and `unknown` begin no formula; every other word at the head
-- is a predicate. Inside a list of a wrong shape nothing else is looked for.
use Rattle.std.specs.Prelude.{ℕ, ◌==◌, if◌then◌else◌, List, [], ◌∷◌, ◌++◌}
use Rattle.sexpr_text.specs.declared.forms.Span.{Span}
use Rattle.sexpr_text.specs.declared.faults.FaultKind.TheVariants.{BadForm}
use Rattle.sexpr_text.specs.Forest.{Forest, nothing, word, group}
use Rattle.sexpr_text.specs.Flaws.{Flaw, flaw_at}
use Rattle.pddl_ast.specs.declared.keywords.Keyword.TheVariants.{And, Or, Not, Imply, Exists}
use Rattle.pddl_ast.specs.declared.keywords.Keyword.TheVariants.{Forall, Equals, When, Oneof}
use Rattle.pddl_ast.specs.declared.keywords.Keyword.TheVariants.{Unknown, Other}
use Rattle.pddl_ast.specs.declared.trees.Term.{Term}
use Rattle.pddl_ast.specs.declared.trees.Term.TheVariants.{Object}
use Rattle.pddl_ast.specs.declared.typed_lists.Declares.TheVariants.{Variables}
use Rattle.pddl_ast.specs.Words.{keyword_of}
use Rattle.pddl_ast.specs.Known.{Known}
use Rattle.pddl_ast.specs.Atoms.{count, terms_flaws, terms_of, atom_flaws, predicate_number}
use Rattle.pddl_ast.specs.TypedLists.{typed_list_flaws, typed_groups, names_of, types_of}
use Rattle.pddl_ast.specs.Trees.{FormulaTree, atom, equal, all, any, negation, implication, exists}
use Rattle.pddl_ast.specs.Trees.{forall, formula_row}

-- the formula that is true of everything, `()`
abbrev pub always : FormulaTree
always = all (formula_row [])

-- a list of a wrong shape
abbrev pub bad_list : Span → List Flaw
bad_list span = flaw_at span BadForm ∷ []

-- everything that is wrong in a list of variables of a quantifier
abbrev pub variables_flaws : Known → Forest → List Flaw
variables_flaws known list = typed_list_flaws Variables known.types [] list

-- the variables in scope under a quantifier with this list
abbrev pub inner_scope : List (List ℕ) → Forest → List (List ℕ)
inner_scope scope list = scope ++ names_of (typed_groups list)

-- the types of the variables of a quantifier's list
abbrev pub variable_types : Known → Forest → List ℕ
variable_types known list = types_of known.types (typed_groups list)

abbrev mutual
  -- everything that is wrong in a row of formulas
  pub formulas_flaws : Known → Forest → List (List ℕ) → List Flaw
  formulas_flaws known nothing scope = []
  formulas_flaws known (word span w rest) scope =
      flaw_at span BadForm ∷ formulas_flaws known rest scope
  formulas_flaws known (group span parts rest) scope =
      formula_flaws known parts span scope ++ formulas_flaws known rest scope

  -- everything that is wrong in the formula that the list with these parts and this span is
  pub formula_flaws : Known → Forest → Span → List (List ℕ) → List Flaw
  formula_flaws known nothing span scope = []
  formula_flaws known (group inner parts rest) span scope = bad_list span
  formula_flaws known (word head w parts) span scope = elim (keyword_of w) [
    | And ↦ formulas_flaws known parts scope
    | Or ↦ formulas_flaws known parts scope
    | Not ↦ if count parts == 1 then formulas_flaws known parts scope else bad_list span
    | Imply ↦ if count parts == 2 then formulas_flaws known parts scope else bad_list span
    | Exists ↦ quantifier_flaws known parts span scope
    | Forall ↦ quantifier_flaws known parts span scope
    | Equals ↦ if count parts == 2 then terms_flaws known scope parts else bad_list span
    | When ↦ bad_list span
    | Oneof ↦ bad_list span
    | Unknown ↦ bad_list span
    | Other ↦ atom_flaws known scope span head w parts
  ]

  -- the same for a quantifier with these parts after its head: a list of variables and a formula.
  -- Where there is no list of variables the formula is not looked into
  pub quantifier_flaws : Known → Forest → Span → List (List ℕ) → List Flaw
  quantifier_flaws known nothing span scope = bad_list span
  quantifier_flaws known (word inner w rest) span scope =
      if count rest == 1 then bad_list inner else bad_list span
  quantifier_flaws known (group inner variables rest) span scope =
      if count rest == 1 then variables_flaws known variables
      ++ formulas_flaws known rest (inner_scope scope variables)
      else bad_list span

-- the first of a row of formulas
abbrev pub first_formula : List FormulaTree → FormulaTree
first_formula [] = always
first_formula (f ∷ fs) = f

-- that one of them implies the other
abbrev pub implication_of : List FormulaTree → FormulaTree
implication_of [] = always
implication_of (f ∷ fs) = implication f (first_formula fs)

abbrev pub first_term : List Term → Term
first_term [] = Object 0
first_term (t ∷ ts) = t

-- that two terms are equal
abbrev pub equality_of : List Term → FormulaTree
equality_of [] = always
equality_of (t ∷ ts) = equal t (first_term ts)

abbrev mutual
  -- the trees of a row of formulas
  pub formulas_of : Known → Forest → List (List ℕ) → List FormulaTree
  formulas_of known nothing scope = []
  formulas_of known (word span w rest) scope = formulas_of known rest scope
  formulas_of known (group span parts rest) scope =
      formula_of known parts scope ∷ formulas_of known rest scope

  -- the tree of the formula that the list with these parts is
  pub formula_of : Known → Forest → List (List ℕ) → FormulaTree
  formula_of known nothing scope = always
  formula_of known (group inner parts rest) scope = always
  formula_of known (word head w parts) scope = elim (keyword_of w) [
    | And ↦ all (formula_row (formulas_of known parts scope))
    | Or ↦ any (formula_row (formulas_of known parts scope))
    | Not ↦ negation (first_formula (formulas_of known parts scope))
    | Imply ↦ implication_of (formulas_of known parts scope)
    | Exists ↦ quantified_of known parts scope (λ types body. exists types body)
    | Forall ↦ quantified_of known parts scope (λ types body. forall types body)
    | Equals ↦ equality_of (terms_of known scope parts)
    | When ↦ always
    | Oneof ↦ always
    | Unknown ↦ always
    | Other ↦ atom (predicate_number known w) (terms_of known scope parts)
  ]

  -- the tree of a quantifier with these parts after its head
  pub quantified_of : Known → Forest → List (List ℕ) → (List ℕ → FormulaTree → FormulaTree)
      → FormulaTree
  quantified_of known nothing scope quantifier = always
  quantified_of known (word inner w rest) scope quantifier = always
  quantified_of known (group inner variables rest) scope quantifier =
      quantifier (variable_types known variables)
      (first_formula (formulas_of known rest (inner_scope scope variables)))
