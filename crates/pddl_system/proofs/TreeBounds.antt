-- The condition of a formula names fluents alone, and is no deeper than the formula.
use Rattle.std.proofs.Common.{◌≡◌, ℕ, ◌+◌, ◌≤◌, Bool, true, false, ◌&&◌, List, [], ◌∷◌, ◌++◌, map, length, Option, Some, None, refl, arith, ◌==◌}
use Rattle.std.specs.Prelude.{max}
use Rattle.std.specs.Option.{option_map_or}
use Rattle.std.proofs.lemmas.Bool.{and_from, lt-ltb}
use Rattle.std.proofs.lemmas.List.Quantifiers.{position-Some}
use Rattle.std.proofs.Math.Nat.{le-max_left, le-max_right, max-le}
use Rattle.pddl_ast.specs.Depth.{formula_depth, formulas_depth}
use Rattle.pddl_ast.specs.Trees.{FormulaTree, FormulaTrees, atom, equal, all, any, negation, implication, exists, forall, no_formula, formula_then, AtomTree}
use Rattle.pddl_system.specs.GroundAtoms.{atom_of, same_atom}
use Rattle.pddl_system.specs.Objects.{bindings, object_of}
use Rattle.pddl_system.specs.Settings.{Setting}
use Rattle.pddl_system.specs.States.{fluent_number}
use Rattle.ctl_syntax.specs.Conditions.{CondTree, is_fluent_true, condition_row}
use Rattle.pddl_system.specs.Tasks.{constant, atom_condition, condition_of, conditions_of}
use Rattle.ctl_syntax.proofs.ConditionTrees.{tree_below, tree_depth, trees_below, trees_depth}

-- rows

pub trees_below-row : {X : Type 0} (n : ℕ) (f : X → CondTree) → ((x : X) → tree_below n (f x) ≡ true) → (xs : List X) → trees_below n (condition_row (map f xs)) ≡ true
trees_below-row n f each [] = refl
trees_below-row n f each (x ∷ xs) = and_from (tree_below n (f x)) (trees_below n (condition_row (map f xs))) (each x) (trees_below-row n f each xs)

trees_depth-row : {X : Type 0} (m : ℕ) (f : X → CondTree) → ((x : X) → tree_depth (f x) ≤ m) → (xs : List X) → trees_depth (condition_row (map f xs)) ≤ m
trees_depth-row m f each [] = omega arith
trees_depth-row m f each (x ∷ xs) = max-le (each x) (trees_depth-row m f each xs)

-- the condition of a formula

module _ (at : Setting) (fl : List AtomTree) where
  constant_below : (n : ℕ) (b : Bool) → tree_below n (constant b) ≡ true
  constant_below n true = refl
  constant_below n false = refl

  constant_depth : (b : Bool) → tree_depth (constant b) ≤ 1
  constant_depth true = omega arith
  constant_depth false = omega arith

  atom_below : (a : AtomTree) → tree_below (length fl) (atom_condition at fl a) ≡ true
  atom_below a = by_number (fluent_number fl a) refl
    where
      by_number : (o : Option ℕ) → fluent_number fl a ≡ o → tree_below (length fl) (option_map_or is_fluent_true o (constant (at.is_fact a))) ≡ true
      by_number (Some k) e = lt-ltb k (length fl) (position-Some (same_atom a) fl k a e).0
      by_number None e = constant_below (length fl) (at.is_fact a)

  atom_depth : (a : AtomTree) → tree_depth (atom_condition at fl a) ≤ 1
  atom_depth a = by_number (fluent_number fl a)
    where
      by_number : (o : Option ℕ) → tree_depth (option_map_or is_fluent_true o (constant (at.is_fact a))) ≤ 1
      by_number (Some k) = omega arith
      by_number None = constant_depth (at.is_fact a)

  mutual
    pub formula_below : (f : FormulaTree) (scope : List ℕ) → tree_below (length fl) (condition_of at fl f scope) ≡ true
    formula_below (atom predicate terms) scope = atom_below (atom_of scope predicate terms)
    formula_below (equal left right) scope = constant_below (length fl) (object_of scope left == object_of scope right)
    formula_below (all parts) scope = formulas_below parts scope
    formula_below (any parts) scope = formulas_below parts scope
    formula_below (negation part) scope = formula_below part scope
    formula_below (implication left right) scope =
        and_from (tree_below (length fl) (condition_of at fl left scope)) (tree_below (length fl) (condition_of at fl right scope) && true)
        (formula_below left scope) (and_from (tree_below (length fl) (condition_of at fl right scope)) true (formula_below right scope) refl)
    formula_below (exists types part) scope =
        trees_below-row (length fl) (λ chosen. condition_of at fl part (scope ++ chosen)) (λ chosen. formula_below part (scope ++ chosen)) (bindings at.objects types)
    formula_below (forall types part) scope =
        trees_below-row (length fl) (λ chosen. condition_of at fl part (scope ++ chosen)) (λ chosen. formula_below part (scope ++ chosen)) (bindings at.objects types)

    formulas_below : (fs : FormulaTrees) (scope : List ℕ) → trees_below (length fl) (conditions_of at fl fs scope) ≡ true
    formulas_below no_formula scope = refl
    formulas_below (formula_then f fs) scope =
        and_from (tree_below (length fl) (condition_of at fl f scope)) (trees_below (length fl) (conditions_of at fl fs scope)) (formula_below f scope) (formulas_below fs scope)

  one_more : (m n : ℕ) → m ≤ n → 1 + m ≤ 1 + n
  one_more m n h = omega arith

  wider : (a b c d : ℕ) → a ≤ c → b ≤ d → max a b ≤ max c d
  wider a b c d h k =
      let left = le-max_left c d in
      let right = le-max_right c d in
      max-le (let l : a ≤ max c d = omega arith in l) (let r : b ≤ max c d = omega arith in r)

  mutual
    pub formula_no_deeper : (f : FormulaTree) (scope : List ℕ) → tree_depth (condition_of at fl f scope) ≤ formula_depth f
    formula_no_deeper (atom predicate terms) scope = atom_depth (atom_of scope predicate terms)
    formula_no_deeper (equal left right) scope = constant_depth (object_of scope left == object_of scope right)
    formula_no_deeper (all parts) scope = one_more (trees_depth (conditions_of at fl parts scope)) (formulas_depth parts) (formulas_no_deeper parts scope)
    formula_no_deeper (any parts) scope = one_more (trees_depth (conditions_of at fl parts scope)) (formulas_depth parts) (formulas_no_deeper parts scope)
    formula_no_deeper (negation part) scope = let under = formula_no_deeper part scope in omega arith
    formula_no_deeper (implication left right) scope =
        one_more (max (tree_depth (condition_of at fl left scope)) (max (tree_depth (condition_of at fl right scope)) 0)) (max (formula_depth left) (formula_depth right))
        (wider (tree_depth (condition_of at fl left scope)) (max (tree_depth (condition_of at fl right scope)) 0) (formula_depth left) (formula_depth right)
        (formula_no_deeper left scope) (max-le (formula_no_deeper right scope) (let l : 0 ≤ formula_depth right = omega arith in l)))
    formula_no_deeper (exists types part) scope =
        one_more (trees_depth (condition_row (map (λ chosen. condition_of at fl part (scope ++ chosen)) (bindings at.objects types)))) (formula_depth part)
        (trees_depth-row (formula_depth part) (λ chosen. condition_of at fl part (scope ++ chosen)) (λ chosen. formula_no_deeper part (scope ++ chosen)) (bindings at.objects types))
    formula_no_deeper (forall types part) scope =
        one_more (trees_depth (condition_row (map (λ chosen. condition_of at fl part (scope ++ chosen)) (bindings at.objects types)))) (formula_depth part)
        (trees_depth-row (formula_depth part) (λ chosen. condition_of at fl part (scope ++ chosen)) (λ chosen. formula_no_deeper part (scope ++ chosen)) (bindings at.objects types))

    formulas_no_deeper : (fs : FormulaTrees) (scope : List ℕ) → trees_depth (conditions_of at fl fs scope) ≤ formulas_depth fs
    formulas_no_deeper no_formula scope = omega arith
    formulas_no_deeper (formula_then f fs) scope =
        wider (tree_depth (condition_of at fl f scope)) (trees_depth (conditions_of at fl fs scope)) (formula_depth f) (formulas_depth fs) (formula_no_deeper f scope) (formulas_no_deeper fs scope)
