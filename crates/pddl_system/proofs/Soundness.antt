-- The three values are sound: what is known of a formula is so in every state, where the atoms of
-- rigid predicates are no fluents.
use Rattle.std.proofs.Common.{◌≡◌, ℕ, Bool, true, false, not, ◌&&◌, ◌||◌, List, [], ◌∷◌, ◌++◌, map, Some, None, refl, ◌∙◌, ap, subst, if◌then◌else◌}
use Rattle.std.specs.List.{list_all, list_any}
use Rattle.std.proofs.lemmas.Bool.{and_left, and_right, or_left, or_right, true≢false}
use Rattle.task_core.specs.Vectors.{Vector}
use Rattle.pddl_ast.specs.Trees.{FormulaTree, FormulaTrees, atom, equal, all, any, negation, implication, exists, forall, no_formula, formula_then, AtomTree}
use Rattle.pddl_system.specs.GroundAtoms.{atom_of}
use Rattle.pddl_system.specs.Objects.{bindings}
use Rattle.pddl_system.specs.Outcomes.{ChangeTree, Condition, may_change}
use Rattle.pddl_system.specs.Settings.{Setting}
use Rattle.pddl_system.specs.States.{atom_holds, comes_about, formula_holds, fluent_number, value_at}
use Rattle.pddl_system.specs.ThreeValues.{Value, may_hold, value, values, value_and, value_or, value_not, value_of_all, value_of_any}
use Rattle.pddl_system.specs.Truth.{are_true, is_one_true}

-- what is known is so
abbrev Tells : Value → Bool → Type 0
Tells (Some b) t = t ≡ b
Tells None t = Unit {0}

and_tells : (v w : Value) (s t : Bool) → Tells v s → Tells w t → Tells (value_and v w) (s && t)
and_tells (Some false) w s t k l = and_left s t k
and_tells (Some true) (Some b) s t k l = ap (λ c. c && t) k ∙ l
and_tells (Some true) None s t k l = tt
and_tells None (Some false) s t k l = and_right s t l
and_tells None (Some true) s t k l = tt
and_tells None None s t k l = tt

or_tells : (v w : Value) (s t : Bool) → Tells v s → Tells w t → Tells (value_or v w) (s || t)
or_tells (Some true) w s t k l = or_left s t k
or_tells (Some false) (Some b) s t k l = ap (λ c. c || t) k ∙ l
or_tells (Some false) None s t k l = tt
or_tells None (Some true) s t k l = or_right s t l
or_tells None (Some false) s t k l = tt
or_tells None None s t k l = tt

not_tells : (v : Value) (t : Bool) → Tells v t → Tells (value_not v) (not t)
not_tells (Some b) t k = ap not k
not_tells None t k = tt

all_tell : {X : Type 0} (f : X → Value) (g : X → Bool) → ((x : X) → Tells (f x) (g x)) → (xs : List X) → Tells (value_of_all (map f xs)) (list_all g xs)
all_tell f g each [] = refl
all_tell f g each (x ∷ xs) = and_tells (f x) (value_of_all (map f xs)) (g x) (list_all g xs) (each x) (all_tell f g each xs)

any_tells : {X : Type 0} (f : X → Value) (g : X → Bool) → ((x : X) → Tells (f x) (g x)) → (xs : List X) → Tells (value_of_any (map f xs)) (list_any g xs)
any_tells f g each [] = refl
any_tells f g each (x ∷ xs) = or_tells (f x) (value_of_any (map f xs)) (g x) (list_any g xs) (each x) (any_tells f g each xs)

-- atoms of rigid predicates are no fluents
abbrev pub RigidIsNoFluent : Setting → List AtomTree → Type 0
RigidIsNoFluent at fl = (a : AtomTree) → at.is_rigid a.predicate ≡ true → fluent_number fl a ≡ None

module _ (at : Setting) (fl : List AtomTree) (v : Vector) (rigid : RigidIsNoFluent at fl) where
  atom_tells : (a : AtomTree) → Tells (if at.is_rigid a.predicate then Some (at.is_fact a) else None) (atom_holds at fl v a)
  atom_tells a = by_test (at.is_rigid a.predicate) refl
    where
      by_test : (b : Bool) → at.is_rigid a.predicate ≡ b → Tells (if b then Some (at.is_fact a) else None) (atom_holds at fl v a)
      by_test true is = ap (value_at v (at.is_fact a)) (rigid a is)
      by_test false is = tt

  mutual
    formula_tells : (f : FormulaTree) (scope : List ℕ) → Tells (value at f scope) (formula_holds at fl v f scope)
    formula_tells (atom predicate terms) scope = atom_tells (atom_of scope predicate terms)
    formula_tells (equal left right) scope = refl
    formula_tells (all parts) scope = formulas_tell parts scope
    formula_tells (any parts) scope = one_tells parts scope
    formula_tells (negation part) scope = not_tells (value at part scope) (formula_holds at fl v part scope) (formula_tells part scope)
    formula_tells (implication left right) scope =
        or_tells (value_not (value at left scope)) (value at right scope) (not (formula_holds at fl v left scope)) (formula_holds at fl v right scope)
        (not_tells (value at left scope) (formula_holds at fl v left scope) (formula_tells left scope))
        (formula_tells right scope)
    formula_tells (exists types part) scope =
        any_tells (λ chosen. value at part (scope ++ chosen)) (λ chosen. formula_holds at fl v part (scope ++ chosen))
        (λ chosen. formula_tells part (scope ++ chosen)) (bindings at.objects types)
    formula_tells (forall types part) scope =
        all_tell (λ chosen. value at part (scope ++ chosen)) (λ chosen. formula_holds at fl v part (scope ++ chosen))
        (λ chosen. formula_tells part (scope ++ chosen)) (bindings at.objects types)

    formulas_tell : (fs : FormulaTrees) (scope : List ℕ) → Tells (value_of_all (values at fs scope)) (are_true at.objects (atom_holds at fl v) fs scope)
    formulas_tell no_formula scope = refl
    formulas_tell (formula_then f fs) scope =
        and_tells (value at f scope) (value_of_all (values at fs scope)) (formula_holds at fl v f scope) (are_true at.objects (atom_holds at fl v) fs scope)
        (formula_tells f scope) (formulas_tell fs scope)

    one_tells : (fs : FormulaTrees) (scope : List ℕ) → Tells (value_of_any (values at fs scope)) (is_one_true at.objects (atom_holds at fl v) fs scope)
    one_tells no_formula scope = refl
    one_tells (formula_then f fs) scope =
        or_tells (value at f scope) (value_of_any (values at fs scope)) (formula_holds at fl v f scope) (is_one_true at.objects (atom_holds at fl v) fs scope)
        (formula_tells f scope) (one_tells fs scope)

  known_so : (w : Value) (b t : Bool) → w ≡ Some b → Tells w t → t ≡ b
  known_so w b t is tells = subst (λ u. Tells u t) is tells

  pub known_is_so : (f : FormulaTree) (scope : List ℕ) (b : Bool) → value at f scope ≡ Some b → formula_holds at fl v f scope ≡ b
  known_is_so f scope b is = known_so (value at f scope) b (formula_holds at fl v f scope) is (formula_tells f scope)

  never : (w : Value) (t : Bool) → may_hold w ≡ false → Tells w t → t ≡ false
  never (Some false) t h tells = tells
  never (Some true) t h tells = absurd (true≢false h)
  never None t h tells = absurd (true≢false h)

  -- a change that is known not to come about never does
  pub no_change : (change : ChangeTree) → may_change at change ≡ false → comes_about at fl v change ≡ false
  no_change change h =
      never (value_of_all (map (λ (c : Condition). value at c.formula c.scope) change.conditions)) (comes_about at fl v change) h
      (all_tell (λ (c : Condition). value at c.formula c.scope) (λ (c : Condition). formula_holds at fl v c.formula c.scope)
      (λ c. formula_tells c.formula c.scope) change.conditions)
