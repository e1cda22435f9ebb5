-- The truth of a formula where each atom has a value (first-order logic over finitely many
-- objects).
use Rattle.std.specs.Prelude.{ℕ, ◌==◌, Bool, true, false, ◌&&◌, ◌||◌, not, List, ◌++◌}
use Rattle.std.specs.List.{list_all, list_any}
use Rattle.pddl_ast.specs.Trees.{FormulaTree, FormulaTrees, atom, equal, all, any, negation}
use Rattle.pddl_ast.specs.Trees.{implication, exists, forall, no_formula, formula_then, AtomTree}
use Rattle.pddl_system.specs.GroundAtoms.{atom_of}
use Rattle.pddl_system.specs.Objects.{bindings, object_of}

-- whether a formula is true where the variables in scope stand for these objects. `objects` gives
-- the objects of a type, and `holds` the value of an atom
abbrev mutual
  pub is_true : (ℕ → List ℕ) → (AtomTree → Bool) → FormulaTree → List ℕ → Bool
  is_true objects holds (atom predicate terms) scope = holds (atom_of scope predicate terms)
  is_true objects holds (equal left right) scope = object_of scope left == object_of scope right
  is_true objects holds (all parts) scope = are_true objects holds parts scope
  is_true objects holds (any parts) scope = is_one_true objects holds parts scope
  is_true objects holds (negation part) scope = not (is_true objects holds part scope)
  is_true objects holds (implication left right) scope =
      not (is_true objects holds left scope) || is_true objects holds right scope
  is_true objects holds (exists types part) scope =
      list_any (λ chosen. is_true objects holds part (scope ++ chosen)) (bindings objects types)
  is_true objects holds (forall types part) scope =
      list_all (λ chosen. is_true objects holds part (scope ++ chosen)) (bindings objects types)

  pub are_true : (ℕ → List ℕ) → (AtomTree → Bool) → FormulaTrees → List ℕ → Bool
  are_true objects holds no_formula scope = true
  are_true objects holds (formula_then f fs) scope =
      is_true objects holds f scope && are_true objects holds fs scope

  pub is_one_true : (ℕ → List ℕ) → (AtomTree → Bool) → FormulaTrees → List ℕ → Bool
  is_one_true objects holds no_formula scope = false
  is_one_true objects holds (formula_then f fs) scope =
      is_true objects holds f scope || is_one_true objects holds fs scope
