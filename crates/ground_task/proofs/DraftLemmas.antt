-- Outcomes drafted part by part.
use Rattle.std.proofs.Common.{◌≡◌, ℕ, ◌+◌, ◌<◌, ◌≤◌, Bool, true, false, cond, ◌&&◌, List, [], ◌∷◌, ◌++◌, map, length, get_or, drop, refl, ap, sym, ◌∙◌}
use Rattle.std.specs.List.{filter, flat_map}
use Rattle.std.proofs.lemmas.List.{append_assoc, append-nil, at_drop_more, at_drop_all, map-append, map-id}
use Rattle.std.proofs.lemmas.List.Concat.{flat_map-append}
use Rattle.std.proofs.lemmas.List.Elements.{filter-append}
use Rattle.pddl_ast.specs.Trees.{AtomTree, EffectTree, effect_row}
use Rattle.pddl_system.specs.Outcomes.{ChangeTree, Condition, OutcomeTree, may_change, one_change, outcomes, outcomes_of_both, outcomes_of_either, products, product_of_all, under}
use Rattle.pddl_system.specs.Settings.{Setting}
use Rattle.pddl_system.specs.ThreeValues.{may_hold, value, value_of_all}
use Rattle.pddl_system.proofs.NamedAtoms.{may_hold-and}
use Rattle.ground_task.specs.Drafts.{possible_where}

abbrev nothing : List OutcomeTree
nothing = [] ∷ []

pub products_first : (seconds : List OutcomeTree) → products nothing seconds ≡ seconds
products_first seconds = append-nil (map (λ second. second) seconds) ∙ map-id seconds

pub products_last : (firsts : List OutcomeTree) → products firsts nothing ≡ firsts
products_last [] = refl
products_last (x ∷ xs) = ap (λ y. y ∷ products xs nothing) (append-nil x) ∙ ap (λ l. x ∷ l) (products_last xs)

map_after : (x y : OutcomeTree) (zs : List OutcomeTree) → map (λ z. (x ++ y) ++ z) zs ≡ map (λ w. x ++ w) (map (λ z. y ++ z) zs)
map_after x y [] = refl
map_after x y (z ∷ zs) = ap (λ w. w ∷ map (λ z. (x ++ y) ++ z) zs) (append_assoc x y z) ∙ ap (λ l. (x ++ (y ++ z)) ∷ l) (map_after x y zs)

products_after : (x : OutcomeTree) (ys zs : List OutcomeTree) → products (map (λ y. x ++ y) ys) zs ≡ map (λ w. x ++ w) (products ys zs)
products_after x [] zs = refl
products_after x (y ∷ ys) zs =
    ap (λ l. l ++ products (map (λ y. x ++ y) ys) zs) (map_after x y zs)
    ∙ ap (λ l. map (λ w. x ++ w) (map (λ z. y ++ z) zs) ++ l) (products_after x ys zs)
    ∙ sym (map-append (λ w. x ++ w) (map (λ z. y ++ z) zs) (products ys zs))

pub products_assoc : (xs ys zs : List OutcomeTree) → products (products xs ys) zs ≡ products xs (products ys zs)
products_assoc [] ys zs = refl
products_assoc (x ∷ xs) ys zs =
    flat_map-append (λ first. map (λ second. first ++ second) zs) (map (λ y. x ++ y) ys) (products xs ys)
    ∙ ap (λ l. l ++ products (products xs ys) zs) (products_after x ys zs)
    ∙ ap (λ l. map (λ w. x ++ w) (products ys zs) ++ l) (products_assoc xs ys zs)

-- a function that respects joining respects products
module _ (B : OutcomeTree → OutcomeTree) (joins : (x y : OutcomeTree) → B (x ++ y) ≡ B x ++ B y) where
  map_joined : (x : OutcomeTree) (ys : List OutcomeTree) → map B (map (λ y. x ++ y) ys) ≡ map (λ y. B x ++ y) (map B ys)
  map_joined x [] = refl
  map_joined x (y ∷ ys) = ap (λ w. w ∷ map B (map (λ y. x ++ y) ys)) (joins x y) ∙ ap (λ l. (B x ++ B y) ∷ l) (map_joined x ys)

  pub map_products : (xs ys : List OutcomeTree) → map B (products xs ys) ≡ products (map B xs) (map B ys)
  map_products [] ys = refl
  map_products (x ∷ xs) ys =
      map-append B (map (λ y. x ++ y) ys) (products xs ys)
      ∙ ap (λ l. l ++ map B (products xs ys)) (map_joined x ys)
      ∙ ap (λ l. map (λ y. B x ++ y) (map B ys) ++ l) (map_products xs ys)

-- what passes after a function
filter_through : {X : Type 0} (p q : X → Bool) (f : X → X) → ((x : X) → p (f x) ≡ q x) → (xs : List X) → filter p (map f xs) ≡ map f (filter q xs)
filter_through p q f tests [] = refl
filter_through p q f tests (x ∷ xs) =
    ap (λ b. cond b (f x ∷ filter p (map f xs)) (filter p (map f xs))) (tests x)
    ∙ pick (q x) (filter_through p q f tests xs)
  where
    pick : (b : Bool) → filter p (map f xs) ≡ map f (filter q xs)
        → cond b (f x ∷ filter p (map f xs)) (filter p (map f xs)) ≡ map f (cond b (x ∷ filter q xs) (filter q xs))
    pick true rest = ap (λ l. f x ∷ l) rest
    pick false rest = rest

filter_none : {X : Type 0} (p : X → Bool) (f : X → X) → ((x : X) → p (f x) ≡ false) → (xs : List X) → filter p (map f xs) ≡ []
filter_none p f fails [] = refl
filter_none p f fails (x ∷ xs) = ap (λ b. cond b (f x ∷ filter p (map f xs)) (filter p (map f xs))) (fails x) ∙ filter_none p f fails xs

module _ (at : Setting) where
  possible_joins : (may : Bool) (x y : OutcomeTree) → possible_where at may (x ++ y) ≡ possible_where at may x ++ possible_where at may y
  possible_joins true x y = filter-append (may_change at) x y
  possible_joins false x y = refl

  possible_nothing : (may : Bool) → possible_where at may [] ≡ []
  possible_nothing true = refl
  possible_nothing false = refl

  -- one `when` more
  may_inside : (c : Condition) (change : ChangeTree) → may_change at (under c change) ≡ (may_hold (value at c.formula c.scope) && may_change at change)
  may_inside c change = may_hold-and (value at c.formula c.scope) (value_of_all (map (λ (k : Condition). value at k.formula k.scope) change.conditions))

  outcome_inside : (may : Bool) (c : Condition) (o : OutcomeTree) → possible_where at may (map (under c) o) ≡ map (under c) (possible_where at (may && may_hold (value at c.formula c.scope)) o)
  outcome_inside false c o = refl
  outcome_inside true c o = pick (may_hold (value at c.formula c.scope)) (λ change. may_inside c change)
    where
      pick : (b : Bool) → ((change : ChangeTree) → may_change at (under c change) ≡ (b && may_change at change))
          → filter (may_change at) (map (under c) o) ≡ map (under c) (possible_where at b o)
      pick true tests = filter_through (may_change at) (may_change at) (under c) tests o
      pick false tests = filter_none (may_change at) (under c) tests o

  pub outcomes_inside : (may : Bool) (c : Condition) (os : List OutcomeTree)
      → map (possible_where at may) (map (map (under c)) os) ≡ map (map (under c)) (map (possible_where at (may && may_hold (value at c.formula c.scope))) os)
  outcomes_inside may c [] = refl
  outcomes_inside may c (o ∷ os) =
      ap (λ w. w ∷ map (possible_where at may) (map (map (under c)) os)) (outcome_inside may c o)
      ∙ ap (λ l. map (under c) (possible_where at (may && may_hold (value at c.formula c.scope)) o) ∷ l) (outcomes_inside may c os)

  -- one change
  pub one_possible : (may : Bool) (a : AtomTree) (positive : Bool) → may ≡ true → one_change a positive ≡ map (possible_where at may) (one_change a positive)
  one_possible may a positive is = ap (λ b. map (possible_where at b) (one_change a positive)) (sym is)

  pub one_impossible : (may : Bool) (a : AtomTree) (positive : Bool) → may ≡ false → nothing ≡ map (possible_where at may) (one_change a positive)
  one_impossible may a positive is = ap (λ b. map (possible_where at b) (one_change a positive)) (sym is)

  module _ (may : Bool) where
    -- what happens together: each element of a list gives outcomes
    abbrev pub together : {X : Type 0} → (X → List OutcomeTree) → List X → List OutcomeTree
    together f xs = map (possible_where at may) (product_of_all (map f xs))

    together_more : {X : Type 0} (f : X → List OutcomeTree) (x : X) (xs : List X) → together f (x ∷ xs) ≡ products (map (possible_where at may) (f x)) (together f xs)
    together_more f x xs = map_products (possible_where at may) (possible_joins may) (f x) (product_of_all (map f xs))

    pub together_step : {X : Type 0} (f : X → List OutcomeTree) (xs : List X) (i : ℕ) (d : X) (made next grown whole : List OutcomeTree)
        → i < length xs → next ≡ map (possible_where at may) (f (get_or xs i d)) → grown ≡ products made next
        → products made (together f (drop i xs)) ≡ whole → products grown (together f (drop (i + 1) xs)) ≡ whole
    together_step f xs i d made next grown whole within is grows so_far =
        ap (λ l. products l (together f (drop (i + 1) xs))) grows
        ∙ products_assoc made next (together f (drop (i + 1) xs))
        ∙ ap (λ l. products made (products l (together f (drop (i + 1) xs)))) is
        ∙ ap (products made) (sym (together_more f (get_or xs i d) (drop (i + 1) xs)) ∙ sym (at_drop_more (together f) xs i d within))
        ∙ so_far

    pub together_start : {X : Type 0} (f : X → List OutcomeTree) (xs : List X) (made : List OutcomeTree) → made ≡ nothing → products made (together f xs) ≡ together f xs
    together_start f xs made none = ap (λ l. products l (together f xs)) none ∙ products_first (together f xs)

    pub together_end : {X : Type 0} (f : X → List OutcomeTree) (xs : List X) (i : ℕ) (made : List OutcomeTree) → length xs ≤ i
        → products made (together f (drop i xs)) ≡ together f xs → made ≡ together f xs
    together_end f xs i made past so_far =
        sym (products_last made)
        ∙ ap (products made) (sym (at_drop_all (together f) xs i past ∙ ap (λ w. w ∷ []) (possible_nothing may)))
        ∙ so_far

    -- a choice
    abbrev pub either : {X : Type 0} → (X → List OutcomeTree) → List X → List OutcomeTree
    either f xs = map (possible_where at may) (flat_map f xs)

    pub either_step : {X : Type 0} (f : X → List OutcomeTree) (xs : List X) (i : ℕ) (d : X) (made next grown whole : List OutcomeTree)
        → i < length xs → next ≡ map (possible_where at may) (f (get_or xs i d)) → grown ≡ made ++ next
        → made ++ either f (drop i xs) ≡ whole → grown ++ either f (drop (i + 1) xs) ≡ whole
    either_step f xs i d made next grown whole within is grows so_far =
        ap (λ l. l ++ either f (drop (i + 1) xs)) grows
        ∙ append_assoc made next (either f (drop (i + 1) xs))
        ∙ ap (λ l. made ++ (l ++ either f (drop (i + 1) xs))) is
        ∙ ap (λ l. made ++ l)
        (sym (map-append (possible_where at may) (f (get_or xs i d)) (flat_map f (drop (i + 1) xs)))
        ∙ sym (at_drop_more (either f) xs i d within))
        ∙ so_far

    pub either_end : {X : Type 0} (f : X → List OutcomeTree) (xs : List X) (i : ℕ) (made : List OutcomeTree) → length xs ≤ i
        → made ++ either f (drop i xs) ≡ either f xs → made ≡ either f xs
    either_end f xs i made past so_far = sym (append-nil made) ∙ ap (λ l. made ++ l) (sym (at_drop_all (either f) xs i past)) ∙ so_far

-- rows of effects as lists
pub both_is : {X : Type 0} (objects : ℕ → List ℕ) (read : X → EffectTree) (es : List X) (scope : List ℕ) → outcomes_of_both objects (effect_row (map read es)) scope ≡ product_of_all (map (λ e. outcomes objects (read e) scope) es)
both_is objects read [] scope = refl
both_is objects read (e ∷ es) scope = ap (products (outcomes objects (read e) scope)) (both_is objects read es scope)

pub either_is : {X : Type 0} (objects : ℕ → List ℕ) (read : X → EffectTree) (es : List X) (scope : List ℕ) → outcomes_of_either objects (effect_row (map read es)) scope ≡ flat_map (λ e. outcomes objects (read e) scope) es
either_is objects read [] scope = refl
either_is objects read (e ∷ es) scope = ap (λ l. outcomes objects (read e) scope ++ l) (either_is objects read es scope)
