-- Private: what is known of a formula where some variables, the free ones, stand for no object yet:
-- its value, but that no atom of a rigid predicate and no equation that names a free variable has a
-- known one.
use Rattle.std.specs.Prelude.{ℕ, ◌==◌, nat_le, nat_lt, Bool, false, ◌&&◌, ◌||◌, List, [], ◌∷◌, ◌++◌, map}
use Rattle.std.specs.Prelude.{Some, None, if◌then◌else◌}
use Rattle.std.specs.List.{list_any}
use Rattle.pddl_ast.specs.Trees.{FormulaTree, FormulaTrees, atom, equal, all, any, negation}
use Rattle.pddl_ast.specs.Trees.{implication, exists, forall, no_formula, formula_then}
use Rattle.pddl_ast.specs.declared.trees.Term.{Term}
use Rattle.pddl_ast.specs.declared.trees.Term.TheVariants.{Variable, Object}
use Rattle.pddl_system.specs.GroundAtoms.{atom_of}
use Rattle.pddl_system.specs.Objects.{bindings, object_of}
use Rattle.pddl_system.specs.Settings.{Setting}
use Rattle.pddl_system.specs.ThreeValues.{Value, value_or, value_not, value_of_all}
use Rattle.pddl_system.specs.ThreeValues.{value_of_any}
use Rattle.ground_instances.specs.declared.values.Free.{Free}

-- whether the variable with a number is free
abbrev pub has_free : Free → ℕ → Bool
has_free free k = nat_le free.first k && nat_lt k free.end

-- whether a term is a free variable
abbrev pub is_free : Free → Term → Bool
is_free free (Variable k) = has_free free k
is_free free (Object o) = false

-- of an equation
abbrev pub value_of_equal : Term → Term → List ℕ → Free → Value
value_of_equal left right scope free =
    if is_free free left || is_free free right
    then None
    else Some (object_of scope left == object_of scope right)

abbrev mutual
  pub partial_value : Setting → FormulaTree → List ℕ → Free → Value
  partial_value at (atom predicate terms) scope free =
      if at.is_rigid predicate
      then if list_any (is_free free) terms
      then None
      else Some (at.is_fact (atom_of scope predicate terms))
      else None
  partial_value at (equal left right) scope free = value_of_equal left right scope free
  partial_value at (all parts) scope free =
      value_of_all (partial_values at parts scope free)
  partial_value at (any parts) scope free =
      value_of_any (partial_values at parts scope free)
  partial_value at (negation part) scope free =
      value_not (partial_value at part scope free)
  partial_value at (implication left right) scope free =
      value_or (value_not (partial_value at left scope free))
      (partial_value at right scope free)
  partial_value at (exists types part) scope free =
      value_of_any (map (λ objects. partial_value at part (scope ++ objects) free)
      (bindings at.objects types))
  partial_value at (forall types part) scope free =
      value_of_all (map (λ objects. partial_value at part (scope ++ objects) free)
      (bindings at.objects types))

  pub partial_values : Setting → FormulaTrees → List ℕ → Free → List Value
  partial_values at no_formula scope free = []
  partial_values at (formula_then f fs) scope free =
      partial_value at f scope free ∷ partial_values at fs scope free
