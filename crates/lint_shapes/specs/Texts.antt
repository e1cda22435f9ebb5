-- The text of a formula: what is printed, byte for byte.
use Rattle.std.specs.Prelude.{ℕ, suc, ◌+◌, List, [], ◌∷◌, ◌++◌, codes, decimal, length, map, slice_index_or}
use Rattle.std.specs.List.{flat_map}
use Rattle.pddl_ast.specs.Trees.{FormulaTree, FormulaTrees, atom, equal, all, any, negation}
use Rattle.pddl_ast.specs.Trees.{implication, exists, forall, no_formula, formula_then}
use Rattle.pddl_ast.specs.declared.trees.Domain.{Domain}
use Rattle.pddl_ast.specs.declared.trees.Named.{Named}
use Rattle.pddl_ast.specs.declared.trees.Predicate.{Predicate}
use Rattle.pddl_ast.specs.declared.trees.Term.{Term}
use Rattle.pddl_ast.specs.declared.trees.Term.TheVariants.{Variable, Object}
use Rattle.lint_shapes.specs.Formulas.{conjunction_of}
use Rattle.lint_shapes.specs.declared.shapes.Shape.{Shape}

-- the names of predicates, types and constants, by their numbers
pub record Names : Type 0 where
  pub predicates : List (List ℕ)
  pub types : List (List ℕ)
  pub constants : List (List ℕ)

abbrev pub names_of : Domain → Names
names_of domain = record {
  predicates = map (λ (p : Predicate). p.name) domain.predicates.items;
  types = domain.type_names.items;
  constants = map (λ (n : Named). n.name) domain.constants.items;
}

abbrev pub name_at : List (List ℕ) → ℕ → List ℕ
name_at names k = slice_index_or names k []

-- the variable with this number, as ?x0
abbrev pub variable_text : ℕ → List ℕ
variable_text k = codes "?x" ++ decimal k

-- a term, after a space
abbrev pub term_text : Names → Term → List ℕ
term_text names (Variable k) = codes " " ++ variable_text k
term_text names (Object k) = codes " " ++ name_at names.constants k

-- a variable with its type, as ?x0 - room
abbrev pub with_type : Names → ℕ → ℕ → List ℕ
with_type names k t = variable_text k ++ codes " - " ++ name_at names.types t

-- variables of these types, the first of which has this number: each after a space
abbrev pub later_text : Names → ℕ → List ℕ → List ℕ
later_text names first [] = []
later_text names first (t ∷ ts) =
    codes " " ++ with_type names first t ++ later_text names (suc first) ts

-- all but the first after a space, as ?x0 - room ?x1 - door
abbrev pub variables_text : Names → ℕ → List ℕ → List ℕ
variables_text names first [] = []
variables_text names first (t ∷ ts) = with_type names first t ++ later_text names (suc first) ts

abbrev pub atom_text : Names → ℕ → List Term → List ℕ
atom_text names p terms =
    codes "(" ++ name_at names.predicates p ++ flat_map (term_text names) terms ++ codes ")"

abbrev pub equal_text : Names → Term → Term → List ℕ
equal_text names left right = codes "(=" ++ term_text names left ++ term_text names right ++ codes ")"

abbrev mutual
  -- a formula inside of so many variables
  pub formula_text : Names → ℕ → FormulaTree → List ℕ
  formula_text names scope (atom p terms) = atom_text names p terms
  formula_text names scope (equal left right) = equal_text names left right
  formula_text names scope (all parts) = codes "(and" ++ row_text names scope parts ++ codes ")"
  formula_text names scope (any parts) = codes "(or" ++ row_text names scope parts ++ codes ")"
  formula_text names scope (negation part) =
      codes "(not " ++ formula_text names scope part ++ codes ")"
  formula_text names scope (implication left right) =
      codes "(imply " ++ formula_text names scope left ++ codes " "
      ++ formula_text names scope right ++ codes ")"
  formula_text names scope (exists types part) =
      codes "(exists (" ++ variables_text names scope types ++ codes ") "
      ++ formula_text names (scope + length types) part ++ codes ")"
  formula_text names scope (forall types part) =
      codes "(forall (" ++ variables_text names scope types ++ codes ") "
      ++ formula_text names (scope + length types) part ++ codes ")"

  -- formulas, each after a space
  pub row_text : Names → ℕ → FormulaTrees → List ℕ
  row_text names scope no_formula = []
  row_text names scope (formula_then f fs) =
      codes " " ++ formula_text names scope f ++ row_text names scope fs

-- a formula, and the end of the section
abbrev pub closed_text : Names → FormulaTree → List ℕ
closed_text names formula = formula_text names 0 formula ++ codes ")"

-- the section of a domain with a formula
abbrev pub section_text : Names → FormulaTree → List ℕ
section_text names formula = codes "(:invariant " ++ closed_text names formula

-- the section that says of shapes that exactly one atom of each of their groups is true
abbrev pub invariant_text : Names → List Shape → List ℕ
invariant_text names shapes = section_text names (conjunction_of shapes)
