-- Private: what the variables that are bound already settle of the value of a formula, whatever
-- variables come after them. `None` where they don't settle it.
use Rattle.std.specs.Prelude.{ℕ, ◌==◌, nat_lt, Bool, true, false, not, ◌&&◌, List, [], ◌∷◌, length, Option}
use Rattle.std.specs.Prelude.{Some, None, if◌then◌else◌}
use Rattle.std.specs.List.{list_all}
use Rattle.std.specs.Option.{option_map}
use Rattle.pddl_ast.specs.Trees.{FormulaTree, FormulaTrees, atom, equal, all, any, negation}
use Rattle.pddl_ast.specs.Trees.{implication, exists, forall, no_formula, formula_then}
use Rattle.pddl_ast.specs.declared.trees.Term.{Term}
use Rattle.pddl_ast.specs.declared.trees.Term.TheVariants.{Variable, Object}
use Rattle.pddl_system.specs.GroundAtoms.{atom_of}
use Rattle.pddl_system.specs.Objects.{object_of}
use Rattle.pddl_system.specs.Settings.{Setting}
use Rattle.pddl_system.specs.Sizes.{binding_count}
use Rattle.ground_instances.specs.declared.values.Free.{Free}
use Rattle.ground_instances.specs.Partial.{has_free}
use Rattle.pddl_system.specs.ThreeValues.{Value, value_and, value_not}

-- whether a term is an object, or one of the first n variables and not free
abbrev pub is_bound : Free → ℕ → Term → Bool
is_bound free n (Variable k) = nat_lt k n && not (has_free free k)
is_bound free n (Object o) = true

abbrev pub settled_and : Option Value → Option Value → Option Value
settled_and None None = None
settled_and None (Some None) = None
settled_and None (Some (Some true)) = None
settled_and None (Some (Some false)) = Some (Some false)
settled_and (Some (Some false)) w = Some (Some false)
settled_and (Some (Some true)) w = w
settled_and (Some None) None = None
settled_and (Some None) (Some w) = Some (value_and None w)

abbrev pub settled_not : Option Value → Option Value
settled_not = option_map value_not

abbrev pub settled_or : Option Value → Option Value → Option Value
settled_or v w = settled_not (settled_and (settled_not v) (settled_not w))

abbrev pub settled_all : List (Option Value) → Option Value
settled_all [] = Some (Some true)
settled_all (v ∷ vs) = settled_and v (settled_all vs)

abbrev pub settled_any : List (Option Value) → Option Value
settled_any [] = Some (Some false)
settled_any (v ∷ vs) = settled_or v (settled_any vs)

-- of a quantifier, from that of its part: `empty` where it has no bindings, `n` of them
abbrev pub settled_each : ℕ → Bool → Option Value → Option Value
settled_each n empty = option_map (λ v. if n == 0 then Some empty else v)

-- of an equation
abbrev pub settled_equal : Term → Term → List ℕ → Free → Option Value
settled_equal left right scope free =
    if is_bound free (length scope) left && is_bound free (length scope) right
    then Some (Some (object_of scope left == object_of scope right))
    else None

abbrev mutual
  pub settled : Setting → FormulaTree → List ℕ → Free → Option Value
  settled at (atom predicate terms) scope free =
      if at.is_rigid predicate
      then if list_all (is_bound free (length scope)) terms
      then Some (Some (at.is_fact (atom_of scope predicate terms)))
      else None
      else Some None
  settled at (equal left right) scope free = settled_equal left right scope free
  settled at (all parts) scope free = settled_all (settled_values at parts scope free)
  settled at (any parts) scope free = settled_any (settled_values at parts scope free)
  settled at (negation part) scope free = settled_not (settled at part scope free)
  settled at (implication left right) scope free =
      settled_or (settled_not (settled at left scope free)) (settled at right scope free)
  settled at (exists types part) scope free =
      settled_each (binding_count at.objects types) false (settled at part scope free)
  settled at (forall types part) scope free =
      settled_each (binding_count at.objects types) true (settled at part scope free)

  pub settled_values : Setting → FormulaTrees → List ℕ → Free → List (Option Value)
  settled_values at no_formula scope free = []
  settled_values at (formula_then f fs) scope free =
      settled at f scope free ∷ settled_values at fs scope free
