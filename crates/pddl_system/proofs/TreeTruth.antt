-- The condition of a formula holds where the formula does.
use Rattle.std.proofs.Common.{◌≡◌, ℕ, Bool, true, false, not, ◌&&◌, ◌||◌, List, [], ◌∷◌, ◌++◌, map, Option, Some, None, refl, ◌∙◌, ap, ◌==◌}
use Rattle.std.specs.List.{list_all, list_any}
use Rattle.std.specs.Option.{option_map_or}
use Rattle.std.proofs.Math.Bool.{or-false}
use Rattle.task_core.specs.Conditions.{holds}
use Rattle.task_core.specs.Vectors.{Vector, value_of}
use Rattle.task_core.specs.declared.conditions.Cond.{Cond}
use Rattle.pddl_ast.specs.Trees.{FormulaTree, FormulaTrees, atom, equal, all, any, negation, implication, exists, forall, no_formula, formula_then, AtomTree}
use Rattle.pddl_system.specs.GroundAtoms.{atom_of}
use Rattle.pddl_system.specs.Objects.{bindings, object_of}
use Rattle.pddl_system.specs.Settings.{Setting}
use Rattle.pddl_system.specs.States.{atom_holds, formula_holds, fluent_number, value_at}
use Rattle.ctl_syntax.proofs.ConditionTrees.{holds_is, one_holds, tree_holds, trees_hold}
use Rattle.ctl_syntax.specs.Conditions.{CondTree, is_fluent_true, condition_row, condition_value}
use Rattle.pddl_system.specs.Tasks.{constant, atom_condition, condition_of, conditions_of}
use Rattle.pddl_system.specs.Truth.{are_true, is_one_true}
use Rattle.pddl_system.proofs.Lists.{list_all-same, list_any-same}

-- a row of condition trees
pub trees_hold-row : {X : Type 0} (f : X → CondTree) (xs : List X) (value : ℕ → Bool) → trees_hold (condition_row (map f xs)) value ≡ list_all (λ x. tree_holds (f x) value) xs
trees_hold-row f [] value = refl
trees_hold-row f (x ∷ xs) value = ap (λ b. tree_holds (f x) value && b) (trees_hold-row f xs value)

pub one_holds-row : {X : Type 0} (f : X → CondTree) (xs : List X) (value : ℕ → Bool) → one_holds (condition_row (map f xs)) value ≡ list_any (λ x. tree_holds (f x) value) xs
one_holds-row f [] value = refl
one_holds-row f (x ∷ xs) value = ap (λ b. tree_holds (f x) value || b) (one_holds-row f xs value)

constant_same : (b : Bool) (value : ℕ → Bool) → tree_holds (constant b) value ≡ b
constant_same true value = refl
constant_same false value = refl

-- the condition of a formula holds where the formula does
module _ (at : Setting) (fl : List AtomTree) (v : Vector) where
  atom_same : (a : AtomTree) → tree_holds (atom_condition at fl a) (value_of v) ≡ atom_holds at fl v a
  atom_same a = by_number (fluent_number fl a)
    where
      by_number : (o : Option ℕ) → tree_holds (option_map_or is_fluent_true o (constant (at.is_fact a))) (value_of v) ≡ value_at v (at.is_fact a) o
      by_number (Some k) = refl
      by_number None = constant_same (at.is_fact a) (value_of v)

  mutual
    pub formula_same : (f : FormulaTree) (scope : List ℕ) → tree_holds (condition_of at fl f scope) (value_of v) ≡ formula_holds at fl v f scope
    formula_same (atom predicate terms) scope = atom_same (atom_of scope predicate terms)
    formula_same (equal left right) scope = constant_same (object_of scope left == object_of scope right) (value_of v)
    formula_same (all parts) scope = all_same parts scope
    formula_same (any parts) scope = any_same parts scope
    formula_same (negation part) scope = ap not (formula_same part scope)
    formula_same (implication left right) scope =
        ap (λ b. not (tree_holds (condition_of at fl left scope) (value_of v)) || b) (or-false (tree_holds (condition_of at fl right scope) (value_of v)))
        ∙ ap (λ b. not b || tree_holds (condition_of at fl right scope) (value_of v)) (formula_same left scope)
        ∙ ap (λ b. not (formula_holds at fl v left scope) || b) (formula_same right scope)
    formula_same (exists types part) scope =
        one_holds-row (λ chosen. condition_of at fl part (scope ++ chosen)) (bindings at.objects types) (value_of v)
        ∙ list_any-same _ _ (λ chosen. formula_same part (scope ++ chosen)) (bindings at.objects types)
    formula_same (forall types part) scope =
        trees_hold-row (λ chosen. condition_of at fl part (scope ++ chosen)) (bindings at.objects types) (value_of v)
        ∙ list_all-same _ _ (λ chosen. formula_same part (scope ++ chosen)) (bindings at.objects types)

    all_same : (fs : FormulaTrees) (scope : List ℕ) → trees_hold (conditions_of at fl fs scope) (value_of v) ≡ are_true at.objects (atom_holds at fl v) fs scope
    all_same no_formula scope = refl
    all_same (formula_then f fs) scope =
        ap (λ b. b && trees_hold (conditions_of at fl fs scope) (value_of v)) (formula_same f scope)
        ∙ ap (λ b. formula_holds at fl v f scope && b) (all_same fs scope)

    any_same : (fs : FormulaTrees) (scope : List ℕ) → one_holds (conditions_of at fl fs scope) (value_of v) ≡ is_one_true at.objects (atom_holds at fl v) fs scope
    any_same no_formula scope = refl
    any_same (formula_then f fs) scope =
        ap (λ b. b || one_holds (conditions_of at fl fs scope) (value_of v)) (formula_same f scope)
        ∙ ap (λ b. formula_holds at fl v f scope || b) (any_same fs scope)

  -- so a condition that stands for the formula's tree
  pub stands_for : (c : Cond) (f : FormulaTree) (scope : List ℕ) → condition_value c ≡ condition_of at fl f scope → holds c (value_of v) ≡ formula_holds at fl v f scope
  stands_for c f scope is =
      holds_is c (value_of v) ∙ ap (λ t. tree_holds t (value_of v)) is ∙ formula_same f scope
