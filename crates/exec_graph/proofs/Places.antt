-- Lists of places, and the lists of their configurations.
use Rattle.std.proofs.Common.{◌≡◌, ℕ, suc, Bool, true, false, cond, ◌||◌, ◌&&◌, eqb, List, [], ◌∷◌, ◌++◌, map, slice_get, Some, refl, sym, ◌∙◌, ap, subst, arith}
use Rattle.std.specs.List.{All, list_any}
use Rattle.std.specs.Option.{option_map}
use Rattle.std.proofs.lemmas.Bool.{and_parts, and_from, eqb-true, eq-eqb}
use Rattle.std.proofs.lemmas.Option.{slice_get-map, slice_get_within, get_or_from_slice_get}
use Rattle.task_core.specs.Vectors.{same_vector}
use Rattle.task_core.proofs.Vectors.{same_vector_refl, same_vector_equal}
use Rattle.std.proofs.lemmas.List.{map-append}
use Rattle.std.proofs.lemmas.List.Elements.{All-push}
use Rattle.indexmap.specs.IndexSet.{insert_key}
use Rattle.task_core.proofs.StateLists.{state_eq, same_as_vectors}
use Rattle.task_core.specs.ContextPlans.{Configuration}
use Rattle.exec_graph.specs.Counting.{same_configuration, add_configuration}
use Rattle.exec_graph.specs.Moves.{configuration_of, IsPlaceWithin}
use Rattle.exec_graph.specs.declared.graphs.Place.{Place}
use Rattle.exec_graph.specs.contracts.graphs.PlacePartialEq.TheImpl.{eq-value}

-- the derived `==` of places
abbrev pub place_eq : Place → Place → Bool
place_eq = eq-value.it

place_eq_is : (a b : Place) → place_eq a b ≡ (state_eq a.state b.state && eqb a.context b.context)
place_eq_is a b = refl

-- it is that of their configurations
pub same_places : (n : ℕ) (a b : Place) → IsPlaceWithin n a → IsPlaceWithin n b
    → place_eq a b ≡ same_configuration (configuration_of n a) (configuration_of n b)
same_places n a b wa wb =
    place_eq_is a b ∙ ap (λ t. t && eqb a.context b.context) (same_as_vectors n a.state b.state wa wb)

any_same : (n : ℕ) (p : Place) (keys : List Place) → IsPlaceWithin n p → All (IsPlaceWithin n) keys
    → list_any (place_eq p) keys ≡ list_any (same_configuration (configuration_of n p)) (map (configuration_of n) keys)
any_same n p [] wp wk = refl
any_same n p (k ∷ keys) wp wk =
    ap (λ b. b || list_any (place_eq p) keys) (same_places n p k wp (wk 0 k (omega arith)))
    ∙ ap (λ b. same_configuration (configuration_of n p) (configuration_of n k) || b)
    (any_same n p keys wp (λ i d h. wk (suc i) d (omega arith)))

-- one more place
pub added_place : (n : ℕ) (p : Place) (keys : List Place) → IsPlaceWithin n p → All (IsPlaceWithin n) keys
    → map (configuration_of n) (insert_key place_eq keys p) ≡ add_configuration (map (configuration_of n) keys) (configuration_of n p)
added_place n p keys wp wk =
    let xs = map (configuration_of n) keys in
    subst (λ b. map (configuration_of n) (insert_key place_eq keys p) ≡ cond b xs (xs ++ configuration_of n p ∷ [])) (any_same n p keys wp wk)
    (elim (list_any (place_eq p) keys) as (λ b. map (configuration_of n) (cond b keys (keys ++ p ∷ [])) ≡ cond b xs (xs ++ configuration_of n p ∷ [])) [
      | true ↦ refl
      | false ↦ map-append (configuration_of n) keys (p ∷ [])
    ])

pub added_within : (n : ℕ) (p : Place) (keys : List Place) → IsPlaceWithin n p → All (IsPlaceWithin n) keys
    → All (IsPlaceWithin n) (insert_key place_eq keys p)
added_within n p keys wp wk =
    elim (list_any (place_eq p) keys) as (λ b. All (IsPlaceWithin n) (cond b keys (keys ++ p ∷ []))) [
      | true ↦ wk
      | false ↦ All-push (IsPlaceWithin n) keys p wk wp
    ]

pub same_configuration_equal : (x y : Configuration) → same_configuration x y ≡ true → x ≡ y
same_configuration_equal x y e =
    let parts = and_parts (same_vector x.state y.state) (eqb x.context y.context) e in
    λ i. record { state = same_vector_equal x.state y.state parts.0 i; context = eqb-true x.context y.context parts.1 i }

pub same_configuration_refl : (x : Configuration) → same_configuration x x ≡ true
same_configuration_refl x = and_from (same_vector x.state x.state) (eqb x.context x.context) (same_vector_refl x.state) (eq-eqb x.context x.context refl)

-- the place at which a place stands that is the same
pub stored_place : (n : ℕ) (p k : Place) (keys : List Place) (i : ℕ) → IsPlaceWithin n p → All (IsPlaceWithin n) keys
    → slice_get keys i ≡ Some k → place_eq p k ≡ true → slice_get (map (configuration_of n) keys) i ≡ Some (configuration_of n p)
stored_place n p k keys i wp wk at same =
    let inside : IsPlaceWithin n k = subst (IsPlaceWithin n) (get_or_from_slice_get keys i k k at) (wk i k (slice_get_within keys i k at)) in
    let equal : configuration_of n p ≡ configuration_of n k =
    same_configuration_equal (configuration_of n p) (configuration_of n k) (sym (same_places n p k wp inside) ∙ same) in
    slice_get-map (configuration_of n) keys i ∙ ap (option_map (configuration_of n)) at ∙ ap Some (sym equal)
