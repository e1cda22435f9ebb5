-- The changes that occur in the outcomes of an effect that fits: their atoms are among all atoms,
-- and their conditions less deep than the effect.
use Rattle.std.proofs.Common.{◌≡◌, ℕ, ◌+◌, ◌<◌, ◌≤◌, Bool, true, false, ◌⊎◌, inl, inr, List, [], ◌∷◌, ◌++◌, map, length, Option, Some, None, refl, sym, ◌∙◌, ap, subst, arith}
use Rattle.std.specs.Prelude.{max, slice_get, replicate}
use Rattle.std.specs.List.{All, enumerate_from, range_with_len}
use Rattle.std.specs.Option.{option_map}
use Rattle.std.proofs.lemmas.List.{length-append, length-map}
use Rattle.std.proofs.lemmas.Option.{none-some, same_Some, slice_get-map}
use Rattle.std.proofs.Math.Nat.{le-max_left, le-max_right}
use Rattle.pddl_ast.specs.declared.trees.Predicate.{Predicate}
use Rattle.pddl_ast.specs.declared.trees.Term.{Term}
use Rattle.pddl_ast.specs.declared.trees.Term.TheVariants.{Variable, Object}
use Rattle.pddl_ast.specs.Depth.{effect_depth, effects_depth, formula_depth}
use Rattle.pddl_ast.specs.Fits.{FitsAtom, FitsEffect, FitsEffects, FitsTerm}
use Rattle.pddl_ast.specs.Known.{Known}
use Rattle.pddl_ast.specs.Trees.{AtomTree, EffectTree, EffectTrees, add, delete, both, one_of, only_when, each, no_effect, effect_then}
use Rattle.pddl_system.specs.GroundAtoms.{all_atoms, atom_of, atoms_of_predicate}
use Rattle.pddl_system.specs.Objects.{bindings, object_of}
use Rattle.pddl_system.specs.Outcomes.{ChangeTree, Condition, OutcomeTree, one_change, outcomes, outcomes_of_both, outcomes_of_either, products, product_of_all, under}
use Rattle.pddl_system.proofs.Members.{Among, All-Among, Among-append_cases, Among-flat_map, Among-flat_map_from, Among-get_or, Among-map, Among-map_from, numbered_from}
use Rattle.pddl_system.proofs.Numbers.{all_chosen, chosen_from, length-chosen}

-- a change occurs in one of the outcomes
abbrev pub Occurs : ChangeTree → List OutcomeTree → Type 0
Occurs t os = (o : OutcomeTree) × Among o os × Among t o

Occurs-append : (t : ChangeTree) (xs ys : List OutcomeTree) → Occurs t (xs ++ ys) → Occurs t xs ⊎ Occurs t ys
Occurs-append t xs ys h =
    elim (Among-append_cases h.0 xs ys h.1) as (λ _. Occurs t xs ⊎ Occurs t ys) [
      | inl k ↦ inl (h.0, k, h.2)
      | inr k ↦ inr (h.0, k, h.2)
    ]

Occurs-products : (t : ChangeTree) (xs ys : List OutcomeTree) → Occurs t (products xs ys) → Occurs t xs ⊎ Occurs t ys
Occurs-products t xs ys h =
    let one = Among-flat_map_from (λ x. map (λ y. x ++ y) ys) h.0 xs h.1 in
    let two = Among-map_from (λ y. one.0 ++ y) h.0 ys one.2 in
    elim (Among-append_cases t one.0 two.0 (subst (λ o. Among t o) (sym two.2) h.2)) as (λ _. Occurs t xs ⊎ Occurs t ys) [
      | inl k ↦ inl (one.0, one.1, k)
      | inr k ↦ inr (two.0, two.1, k)
    ]

Occurs-product : {X : Type 0} (f : X → List OutcomeTree) (t : ChangeTree) (xs : List X) → Occurs t (product_of_all (map f xs)) → (x : X) × Among x xs × Occurs t (f x)
Occurs-product f t [] h = nowhere h.0 h.1 h.2
  where
    nowhere : (o : OutcomeTree) → Among o ([] ∷ []) → Among t o → (x : _) × Among x [] × Occurs t (f x)
    nowhere o (inl e) k = absurd (subst (λ u. Among t u) (sym e) k)
    nowhere o (inr e) k = absurd e
Occurs-product {X} f t (x ∷ xs) h =
    elim (Occurs-products t (f x) (product_of_all (map f xs)) h) as (λ _. (y : X) × Among y (x ∷ xs) × Occurs t (f y)) [
      | inl k ↦ (x, inl refl, k)
      | inr k ↦ let rest = Occurs-product f t xs k in (rest.0, inr rest.1, rest.2)
    ]

Occurs-under : (c : Condition) (t : ChangeTree) (os : List OutcomeTree) → Occurs t (map (map (under c)) os) → (u : ChangeTree) × Occurs u os × (under c u ≡ t)
Occurs-under c t os h =
    let one = Among-map_from (map (under c)) h.0 os h.1 in
    let two = Among-map_from (under c) t one.0 (subst (λ o. Among t o) (sym one.2) h.2) in
    (two.0, (one.0, one.1, two.1), two.2)

Occurs-one : (t c : ChangeTree) → Occurs t ((c ∷ []) ∷ []) → c ≡ t
Occurs-one t c h = here h.0 h.1 h.2
  where
    of_list : (c ≡ t) ⊎ ⊥ → c ≡ t
    of_list (inl e) = e
    of_list (inr e) = absurd e

    here : (o : OutcomeTree) → Among o ((c ∷ []) ∷ []) → Among t o → c ≡ t
    here o (inl e) k = of_list (subst (λ u. Among t u) (sym e) k)
    here o (inr e) k = absurd e

nowhere : (t : ChangeTree) → Occurs t ([] ∷ []) → ⊥
nowhere t h = in_none h.0 h.1 h.2
  where
    in_none : (o : OutcomeTree) → Among o ([] ∷ []) → Among t o → ⊥
    in_none o (inl e) k = subst (λ u. Among t u) (sym e) k
    in_none o (inr e) k = e

-- the objects of a type are below the count, and as many variables are in scope as the effect says
module _ (predicates : List Predicate) (count : ℕ) (objects : ℕ → List ℕ) (objects_below : (t x : ℕ) → Among x (objects t) → x < count) (known : Known) (arities : known.arities ≡ map (λ (q : Predicate). q.arity) predicates) (few : length known.objects ≤ count) where
  pub record IsScope (n : ℕ) (scope : List ℕ) : Type 0 where
    pub long : length scope ≡ n
    pub below : (x : ℕ) → Among x scope → x < count

  term_below : (scope : List ℕ) (n : ℕ) → IsScope n scope → (term : Term) → FitsTerm (length known.objects) n term → object_of scope term < count
  term_below scope n is (Variable k) fits = is.below _ (Among-get_or scope k 0 (let long = is.long in omega arith))
  term_below scope n is (Object k) fits = omega arith

  terms_below : (scope : List ℕ) (n : ℕ) → IsScope n scope → (terms : List Term) → All (FitsTerm (length known.objects) n) terms → (x : ℕ) → Among x (map (object_of scope) terms) → x < count
  terms_below scope n is terms fits x h =
      let from = Among-map_from (object_of scope) x terms h in
      subst (λ y. y < count) from.2 (term_below scope n is from.0 (All-Among (FitsTerm (length known.objects) n) from.0 terms fits from.1))

  pub listed : (a : AtomTree) → slice_get known.arities a.predicate ≡ Some (length a.objects) → ((x : ℕ) → Among x a.objects → x < count) → Among a (all_atoms predicates count)
  listed a takes below = by_predicate (slice_get predicates a.predicate) refl
    where
      arity_at : option_map (λ (q : Predicate). q.arity) (slice_get predicates a.predicate) ≡ Some (length a.objects)
      arity_at = sym (slice_get-map (λ (q : Predicate). q.arity) predicates a.predicate) ∙ ap (λ ns. slice_get ns a.predicate) (sym arities) ∙ takes

      by_predicate : (o : Option Predicate) → slice_get predicates a.predicate ≡ o → Among a (all_atoms predicates count)
      by_predicate None e = absurd (none-some (length a.objects) (sym (ap (option_map (λ (q : Predicate). q.arity)) e) ∙ arity_at))
      by_predicate (Some q) e =
          let arity : q.arity ≡ length a.objects = same_Some q.arity (length a.objects) (sym (ap (option_map (λ (r : Predicate). r.arity)) e) ∙ arity_at) in
          let numbered : Among (a.predicate, q) (enumerate_from 0 predicates) = subst (λ k. Among (k, q) (enumerate_from 0 predicates)) (omega arith) (numbered_from predicates 0 a.predicate q e) in
          Among-flat_map (λ (entry : ℕ × Predicate). atoms_of_predicate count entry.0 entry.1.arity) (a.predicate, q) a (enumerate_from 0 predicates) numbered
          (Among-map (λ os. record { predicate = a.predicate; objects = os }) a.objects (bindings (λ _. range_with_len 0 count) (replicate q.arity 0)) (all_chosen count q.arity a.objects (sym arity) below))

  -- a change of an effect that is this deep
  pub record IsFine (m : ℕ) (t : ChangeTree) : Type 0 where
    pub atom_is_listed : Among t.atom (all_atoms predicates count)
    pub conditions_are_shallow : (c : Condition) → Among c t.conditions → 1 + formula_depth c.formula ≤ m

  finer : (m k : ℕ) (t : ChangeTree) → m ≤ k → IsFine m t → IsFine k t
  finer m k t le fine = record {
    atom_is_listed = fine.atom_is_listed;
    conditions_are_shallow = λ c h. let shallow = fine.conditions_are_shallow c h in omega arith;
  }

  one_is_fine : (scope : List ℕ) (n q : ℕ) (terms : List Term) (positive : Bool) → IsScope n scope → FitsAtom known n q terms → (t : ChangeTree) → Occurs t (one_change (atom_of scope q terms) positive) → IsFine 1 t
  one_is_fine scope n q terms positive is fits t h =
      subst (IsFine 1) (Occurs-one t (record { conditions = []; atom = atom_of scope q terms; positive = positive }) h) (record {
        atom_is_listed = listed (atom_of scope q terms) (fits.0 ∙ ap Some (sym (length-map terms (object_of scope)))) (terms_below scope n is terms fits.1);
        conditions_are_shallow = λ c k. absurd k;
      })

  longer : (n : ℕ) (scope types chosen : List ℕ) → IsScope n scope → Among chosen (bindings objects types) → IsScope (n + length types) (scope ++ chosen)
  longer n scope types chosen is h = record {
    long = length-append scope chosen ∙ (let old = is.long in let new = length-chosen objects types chosen h in omega arith);
    below = λ x k. elim (Among-append_cases x scope chosen k) as (λ _. x < count) [
      | inl l ↦ is.below x l
      | inr l ↦ let from = chosen_from objects types chosen h x l in objects_below from.0 x from.1
    ];
  }

  under_is_fine : (c : Condition) (m k : ℕ) (u t : ChangeTree) → under c u ≡ t → 1 + formula_depth c.formula ≤ k → m ≤ k → IsFine m u → IsFine k t
  under_is_fine c m k u t e here le fine = subst (IsFine k) e (record {
    atom_is_listed = fine.atom_is_listed;
    conditions_are_shallow = shallow;
  })
    where
      shallow : (x : Condition) → (c ≡ x) ⊎ Among x u.conditions → 1 + formula_depth x.formula ≤ k
      shallow x (inl is) = subst (λ (z : Condition). 1 + formula_depth z.formula ≤ k) is here
      shallow x (inr h) = let old = fine.conditions_are_shallow x h in omega arith

  mutual
    pub changes_are_fine : (e : EffectTree) (n : ℕ) → FitsEffect known e n → (scope : List ℕ) → IsScope n scope → (t : ChangeTree) → Occurs t (outcomes objects e scope) → IsFine (effect_depth e) t
    changes_are_fine (add q terms) n fits scope is t h = one_is_fine scope n q terms true is fits t h
    changes_are_fine (delete q terms) n fits scope is t h = one_is_fine scope n q terms false is fits t h
    changes_are_fine (both parts) n fits scope is t h =
        finer (effects_depth parts) (1 + effects_depth parts) t (omega arith) (both_are_fine parts n fits scope is t h)
    changes_are_fine (one_of parts) n fits scope is t h =
        finer (effects_depth parts) (1 + effects_depth parts) t (omega arith) (either_is_fine parts n fits.1 scope is t h)
    changes_are_fine (only_when formula part) n fits scope is t h =
        let from = Occurs-under (record { formula = formula; scope = scope }) t (outcomes objects part scope) h in
        let left = le-max_left (formula_depth formula) (effect_depth part) in
        let right = le-max_right (formula_depth formula) (effect_depth part) in
        under_is_fine (record { formula = formula; scope = scope }) (effect_depth part) (1 + max (formula_depth formula) (effect_depth part)) from.0 t from.2
        (omega arith) (omega arith) (changes_are_fine part n fits.1 scope is from.0 from.1)
    changes_are_fine (each types part) n fits scope is t h =
        let from = Occurs-product (λ chosen. outcomes objects part (scope ++ chosen)) t (bindings objects types) h in
        finer (effect_depth part) (1 + effect_depth part) t (omega arith)
        (changes_are_fine part (n + length types) fits.1 (scope ++ from.0) (longer n scope types from.0 is from.1) t from.2)

    both_are_fine : (es : EffectTrees) (n : ℕ) → FitsEffects known es n → (scope : List ℕ) → IsScope n scope → (t : ChangeTree) → Occurs t (outcomes_of_both objects es scope) → IsFine (effects_depth es) t
    both_are_fine no_effect n fits scope is t h = absurd (nowhere t h)
    both_are_fine (effect_then e es) n fits scope is t h =
        elim (Occurs-products t (outcomes objects e scope) (outcomes_of_both objects es scope) h) as (λ _. IsFine (max (effect_depth e) (effects_depth es)) t) [
          | inl k ↦ finer (effect_depth e) (max (effect_depth e) (effects_depth es)) t (le-max_left (effect_depth e) (effects_depth es)) (changes_are_fine e n fits.0 scope is t k)
          | inr k ↦ finer (effects_depth es) (max (effect_depth e) (effects_depth es)) t (le-max_right (effect_depth e) (effects_depth es)) (both_are_fine es n fits.1 scope is t k)
        ]

    either_is_fine : (es : EffectTrees) (n : ℕ) → FitsEffects known es n → (scope : List ℕ) → IsScope n scope → (t : ChangeTree) → Occurs t (outcomes_of_either objects es scope) → IsFine (effects_depth es) t
    either_is_fine no_effect n fits scope is t h = absurd h.1
    either_is_fine (effect_then e es) n fits scope is t h =
        elim (Occurs-append t (outcomes objects e scope) (outcomes_of_either objects es scope) h) as (λ _. IsFine (max (effect_depth e) (effects_depth es)) t) [
          | inl k ↦ finer (effect_depth e) (max (effect_depth e) (effects_depth es)) t (le-max_left (effect_depth e) (effects_depth es)) (changes_are_fine e n fits.0 scope is t k)
          | inr k ↦ finer (effects_depth es) (max (effect_depth e) (effects_depth es)) t (le-max_right (effect_depth e) (effects_depth es)) (either_is_fine es n fits.1 scope is t k)
        ]
