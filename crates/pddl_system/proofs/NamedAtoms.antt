-- The atoms that an effect names are those that some outcome may change.
use Rattle.std.proofs.Common.{◌≡◌, ℕ, ◌+◌, ◌<◌, Bool, true, false, ◌&&◌, ◌||◌, List, [], ◌∷◌, ◌++◌, map, length, Some, None, refl, sym, ◌∙◌, ap, subst, arith, if◌then◌else◌}
use Rattle.std.specs.List.{filter, list_any}
use Rattle.std.proofs.lemmas.List.{length-append, length-map}
use Rattle.std.proofs.lemmas.List.Folds.{list_any-append}
use Rattle.std.proofs.Math.Bool.{or-false}
use Rattle.std.proofs.Math.Nat.{mul-pos, one-le-pow}
use Rattle.task_core.proofs.Vectors.{list_any-map}
use Rattle.pddl_ast.specs.Fits.{FitsEffect, FitsEffects}
use Rattle.pddl_ast.specs.Known.{Known}
use Rattle.pddl_ast.specs.Trees.{AtomTree, EffectTree, EffectTrees, add, delete, both, one_of, only_when, each, no_effect, effect_then}
use Rattle.pddl_system.specs.Fluents.{atoms_changed, named_by_effect, named_by_effects}
use Rattle.pddl_system.specs.GroundAtoms.{is_among, same_atom}
use Rattle.pddl_system.specs.Laws.{EffectsHaveOutcomes, NamedAtomsAreChanged}
use Rattle.pddl_system.specs.Objects.{bindings}
use Rattle.pddl_system.specs.Outcomes.{ChangeTree, Condition, OutcomeTree, may_change, outcomes, outcomes_of_both, outcomes_of_either, possible_changes, products, product_of_all, under}
use Rattle.pddl_system.specs.Settings.{Setting}
use Rattle.pddl_system.specs.Sizes.{outcome_count, product_of_counts}
use Rattle.pddl_system.specs.ThreeValues.{Value, may_hold, value, value_and, value_of_all}
use Rattle.pddl_system.proofs.Counts.{outcomes_are_counted}
use Rattle.pddl_system.proofs.Lists.{list_any-flat_map, list_any-same, list_any_or, list_any_or_before, list_any_and, list_any-filter}

-- an effect that fits has an outcome

module _ (known : Known) (objects : ℕ → List ℕ) where
  mutual
    some_outcome : (e : EffectTree) (n : ℕ) → FitsEffect known e n → 0 < outcome_count objects e
    some_outcome (add predicate terms) n fits = omega arith
    some_outcome (delete predicate terms) n fits = omega arith
    some_outcome (both parts) n fits = some_of_both parts n fits
    some_outcome (one_of no_effect) n fits = absurd fits.0
    some_outcome (one_of (effect_then e es)) n fits =
        let here = some_outcome e n fits.1.0 in
        omega arith
    some_outcome (only_when formula part) n fits = some_outcome part n fits.1
    some_outcome (each types part) n fits =
        one-le-pow _ (outcome_count objects part) (some_outcome part (n + length types) fits.1)

    some_of_both : (es : EffectTrees) (n : ℕ) → FitsEffects known es n → 0 < product_of_counts objects es
    some_of_both no_effect n fits = omega arith
    some_of_both (effect_then e es) n fits = mul-pos (some_outcome e n fits.0) (some_of_both es n fits.1)

pub effects_have_outcomes : EffectsHaveOutcomes
effects_have_outcomes known objects e n scope fits =
    subst (λ k. 0 < k) (sym (outcomes_are_counted objects e scope)) (some_outcome known objects e n fits)

both_have_outcomes : (known : Known) (objects : ℕ → List ℕ) (es : EffectTrees) (n : ℕ) (scope : List ℕ) → FitsEffects known es n → 0 < length (outcomes_of_both objects es scope)
both_have_outcomes known objects es n scope fits = effects_have_outcomes known objects (both es) n scope fits

-- which outcomes change an atom

pub may_hold-and : (v w : Value) → may_hold (value_and v w) ≡ (may_hold v && may_hold w)
may_hold-and (Some false) w = refl
may_hold-and (Some true) w = refl
may_hold-and None (Some false) = refl
may_hold-and None (Some true) = refl
may_hold-and None None = refl

module _ (at : Setting) (a : AtomTree) where
  -- whether an outcome may change the atom
  abbrev pub touches : OutcomeTree → Bool
  touches outcome = is_among (atoms_changed (possible_changes at outcome)) a

  -- by its changes
  abbrev is_touched_by : ChangeTree → Bool
  is_touched_by change = may_change at change && same_atom a change.atom

  touches_is : (o : OutcomeTree) → touches o ≡ list_any is_touched_by o
  touches_is o =
      list_any-map (same_atom a) (λ (c : ChangeTree). c.atom) (filter (may_change at) o)
      ∙ list_any-filter (may_change at) (λ (c : ChangeTree). same_atom a c.atom) o

  pub touches-append : (x y : OutcomeTree) → touches (x ++ y) ≡ (touches x || touches y)
  touches-append x y = touches_is (x ++ y) ∙ list_any-append is_touched_by x y ∙ both_are
    where
      both_are : (list_any is_touched_by x || list_any is_touched_by y) ≡ (touches x || touches y)
      both_are = ap (λ b. b || list_any is_touched_by y) (sym (touches_is x)) ∙ ap (λ b. touches x || b) (sym (touches_is y))

  touches-products : (xs ys : List OutcomeTree) → 0 < length xs → 0 < length ys → list_any touches (products xs ys) ≡ (list_any touches xs || list_any touches ys)
  touches-products xs ys some_x some_y =
      list_any-flat_map touches (λ x. map (λ y. x ++ y) ys) xs
      ∙ list_any-same _ _ of_one xs
      ∙ list_any_or touches (list_any touches ys) xs some_x
    where
      of_one : (x : OutcomeTree) → list_any touches (map (λ y. x ++ y) ys) ≡ (touches x || list_any touches ys)
      of_one x =
          list_any-map touches (λ y. x ++ y) ys
          ∙ list_any-same _ _ (λ y. touches-append x y) ys
          ∙ list_any_or_before (touches x) touches ys some_y

  product_some : {X : Type 0} (f : X → List OutcomeTree) → ((x : X) → 0 < length (f x)) → (xs : List X) → 0 < length (product_of_all (map f xs))
  product_some f some [] = omega arith
  product_some f some (x ∷ xs) = products_some (f x) (product_of_all (map f xs)) (some x) (product_some f some xs)
    where
      products_some : (xs ys : List OutcomeTree) → 0 < length xs → 0 < length ys → 0 < length (products xs ys)
      products_some [] ys sx sy = absurd (omega arith)
      products_some (x ∷ xs) ys sx sy =
          let parts = length-append (map (λ y. x ++ y) ys) (products xs ys) in
          let first = length-map ys (λ y. x ++ y) in
          omega arith

  touches-product : {X : Type 0} (f : X → List OutcomeTree) → ((x : X) → 0 < length (f x)) → (xs : List X) → list_any touches (product_of_all (map f xs)) ≡ list_any (λ x. list_any touches (f x)) xs
  touches-product f some [] = refl
  touches-product f some (x ∷ xs) =
      touches-products (f x) (product_of_all (map f xs)) (some x) (product_some f some xs)
      ∙ ap (λ b. list_any touches (f x) || b) (touches-product f some xs)

  touches-under : (c : Condition) (o : OutcomeTree) → touches (map (under c) o) ≡ (may_hold (value at c.formula c.scope) && touches o)
  touches-under c o =
      touches_is (map (under c) o)
      ∙ list_any-map is_touched_by (under c) o
      ∙ list_any-same _ _ of_one o
      ∙ list_any_and (may_hold (value at c.formula c.scope)) is_touched_by o
      ∙ ap (λ b. may_hold (value at c.formula c.scope) && b) (sym (touches_is o))
    where
      and_assoc : (x y z : Bool) → (x && y && z) ≡ (x && (y && z))
      and_assoc true y z = refl
      and_assoc false y z = refl

      of_one : (change : ChangeTree) → is_touched_by (under c change) ≡ (may_hold (value at c.formula c.scope) && is_touched_by change)
      of_one change = ap (λ b. b && same_atom a change.atom) (may_hold-and (value at c.formula c.scope) (value_of_all (map (λ (k : Condition). value at k.formula k.scope) change.conditions))) ∙ and_assoc (may_hold (value at c.formula c.scope)) (may_change at change) (same_atom a change.atom)

  pub under_same : (c : Condition) (os : List OutcomeTree) → list_any touches (map (map (under c)) os) ≡ (may_hold (value at c.formula c.scope) && list_any touches os)
  under_same c os =
      list_any-map touches (map (under c)) os
      ∙ list_any-same _ _ (touches-under c) os
      ∙ list_any_and (may_hold (value at c.formula c.scope)) touches os

  among_if : (b : Bool) (atoms : List AtomTree) → is_among (if b then atoms else []) a ≡ (b && is_among atoms a)
  among_if true atoms = refl
  among_if false atoms = refl

  module _ (known : Known) where
    mutual
      named_same : (e : EffectTree) (n : ℕ) → FitsEffect known e n → (scope : List ℕ) → list_any touches (outcomes at.objects e scope) ≡ is_among (named_by_effect at e scope) a
      named_same (add predicate terms) n fits scope = or-false _
      named_same (delete predicate terms) n fits scope = or-false _
      named_same (both parts) n fits scope = named_by_both parts n fits scope
      named_same (one_of parts) n fits scope = named_by_either parts n fits.1 scope
      named_same (only_when formula part) n fits scope =
          under_same (record { formula = formula; scope = scope }) (outcomes at.objects part scope)
          ∙ ap (λ b. may_hold (value at formula scope) && b) (named_same part n fits.1 scope)
          ∙ sym (among_if (may_hold (value at formula scope)) (named_by_effect at part scope))
      named_same (each types part) n fits scope =
          touches-product (λ chosen. outcomes at.objects part (scope ++ chosen))
          (λ chosen. effects_have_outcomes known at.objects part (n + length types) (scope ++ chosen) fits.1)
          (bindings at.objects types)
          ∙ list_any-same _ _ (λ chosen. named_same part (n + length types) fits.1 (scope ++ chosen)) (bindings at.objects types)
          ∙ sym (list_any-flat_map (same_atom a) (λ chosen. named_by_effect at part (scope ++ chosen)) (bindings at.objects types))

      named_by_both : (es : EffectTrees) (n : ℕ) → FitsEffects known es n → (scope : List ℕ) → list_any touches (outcomes_of_both at.objects es scope) ≡ is_among (named_by_effects at es scope) a
      named_by_both no_effect n fits scope = refl
      named_by_both (effect_then e es) n fits scope =
          touches-products (outcomes at.objects e scope) (outcomes_of_both at.objects es scope)
          (effects_have_outcomes known at.objects e n scope fits.0)
          (both_have_outcomes known at.objects es n scope fits.1)
          ∙ ap (λ b. b || list_any touches (outcomes_of_both at.objects es scope)) (named_same e n fits.0 scope)
          ∙ ap (λ b. is_among (named_by_effect at e scope) a || b) (named_by_both es n fits.1 scope)
          ∙ sym (list_any-append (same_atom a) (named_by_effect at e scope) (named_by_effects at es scope))

      named_by_either : (es : EffectTrees) (n : ℕ) → FitsEffects known es n → (scope : List ℕ) → list_any touches (outcomes_of_either at.objects es scope) ≡ is_among (named_by_effects at es scope) a
      named_by_either no_effect n fits scope = refl
      named_by_either (effect_then e es) n fits scope =
          list_any-append touches (outcomes at.objects e scope) (outcomes_of_either at.objects es scope)
          ∙ ap (λ b. b || list_any touches (outcomes_of_either at.objects es scope)) (named_same e n fits.0 scope)
          ∙ ap (λ b. is_among (named_by_effect at e scope) a || b) (named_by_either es n fits.1 scope)
          ∙ sym (list_any-append (same_atom a) (named_by_effect at e scope) (named_by_effects at es scope))

pub named_atoms_are_changed : NamedAtomsAreChanged
named_atoms_are_changed known n at i a fits =
    list_any-flat_map (same_atom a) (λ o. atoms_changed (possible_changes at o)) (outcomes at.objects i.schema.effect i.objects)
    ∙ named_same at a known i.schema.effect n fits i.objects
