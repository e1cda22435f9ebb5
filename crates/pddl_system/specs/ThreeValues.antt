-- The value of a formula as far as the setting alone decides it: true, false, or unknown, which is
-- `None` (the strong three-valued logic of Kleene 1952). An atom of a rigid predicate has its
-- initial value, and `=` its truth; every other atom is unknown.
use Rattle.std.specs.Prelude.{ℕ, ◌==◌, Bool, true, false, not, List, [], ◌∷◌, ◌++◌, map, Option}
use Rattle.std.specs.Prelude.{Some, None, if◌then◌else◌}
use Rattle.std.specs.Option.{option_map}
use Rattle.pddl_ast.specs.Trees.{FormulaTree, FormulaTrees, atom, equal, all, any, negation}
use Rattle.pddl_ast.specs.Trees.{implication, exists, forall, no_formula, formula_then}
use Rattle.pddl_system.specs.GroundAtoms.{atom_of}
use Rattle.pddl_system.specs.Objects.{bindings, object_of}
use Rattle.pddl_system.specs.Settings.{Setting}

abbrev pub Value : Type 0
Value = Option Bool

-- what is known of "both", "one of them" and "not" from what is known of the parts
abbrev pub value_and : Value → Value → Value
value_and (Some false) w = Some false
value_and (Some true) w = w
value_and None (Some false) = Some false
value_and None (Some true) = None
value_and None None = None

abbrev pub value_or : Value → Value → Value
value_or (Some true) w = Some true
value_or (Some false) w = w
value_or None (Some true) = Some true
value_or None (Some false) = None
value_or None None = None

abbrev pub value_not : Value → Value
value_not = option_map not

abbrev pub value_of_all : List Value → Value
value_of_all [] = Some true
value_of_all (v ∷ vs) = value_and v (value_of_all vs)

abbrev pub value_of_any : List Value → Value
value_of_any [] = Some false
value_of_any (v ∷ vs) = value_or v (value_of_any vs)

-- the value of a formula where the variables in scope stand for these objects
abbrev mutual
  pub value : Setting → FormulaTree → List ℕ → Value
  value at (atom predicate terms) scope =
      if at.is_rigid predicate then Some (at.is_fact (atom_of scope predicate terms)) else None
  value at (equal left right) scope = Some (object_of scope left == object_of scope right)
  value at (all parts) scope = value_of_all (values at parts scope)
  value at (any parts) scope = value_of_any (values at parts scope)
  value at (negation part) scope = value_not (value at part scope)
  value at (implication left right) scope =
      value_or (value_not (value at left scope)) (value at right scope)
  value at (exists types part) scope =
      value_of_any (map (λ objects. value at part (scope ++ objects)) (bindings at.objects types))
  value at (forall types part) scope =
      value_of_all (map (λ objects. value at part (scope ++ objects)) (bindings at.objects types))

  pub values : Setting → FormulaTrees → List ℕ → List Value
  values at no_formula scope = []
  values at (formula_then f fs) scope = value at f scope ∷ values at fs scope

-- whether a formula of this value may hold
abbrev pub may_hold : Value → Bool
may_hold (Some false) = false
may_hold (Some true) = true
may_hold None = true
