-- Vectors of n truth values: which there are, how many, and when two are the same.
use Rattle.std.proofs.Common.{◌≡◌, ℕ, zero, suc, ◌^◌, Bool, true, false, cond, List, [], ◌∷◌, map, length, refl, sym, ◌∙◌, ap, subst, ⊎_elim, arith, length-append, ◌||◌}
use Rattle.std.specs.List.{Contains, filter, list_any, list_all}
use Rattle.std.proofs.lemmas.List.{length-map}
use Rattle.std.proofs.lemmas.List.Elements.{Contains-append_left, Contains-append_right, Contains-append_cases}
use Rattle.std.proofs.lemmas.Bool.{and_parts, and_from, or_parts}
use Rattle.task_core.specs.Vectors.{Vector, all_vectors, same_value, same_vector}

-- the same values are equal, and the other way round
pub same_value_refl : (b : Bool) → same_value b b ≡ true
same_value_refl true = refl
same_value_refl false = refl

pub same_value_equal : (a b : Bool) → same_value a b ≡ true → a ≡ b
same_value_equal true true e = refl
same_value_equal true false e = cc
same_value_equal false true e = cc
same_value_equal false false e = refl

-- the same vectors are equal, and the other way round
pub same_vector_refl : (v : Vector) → same_vector v v ≡ true
same_vector_refl [] = refl
same_vector_refl (x ∷ v) = and_from (same_value x x) (same_vector v v) (same_value_refl x) (same_vector_refl v)

pub same_vector_equal : (v w : Vector) → same_vector v w ≡ true → v ≡ w
same_vector_equal [] [] e = refl
same_vector_equal [] (y ∷ w) e = cc
same_vector_equal (x ∷ v) [] e = cc
same_vector_equal (x ∷ v) (y ∷ w) e =
    let parts = and_parts (same_value x y) (same_vector v w) e in
    let head = same_value_equal x y parts.0 in
    let tail = same_vector_equal v w parts.1 in
    cc

-- a test that passes at each element passes at one; one that passes at none fails there
pub list_all_contains : {X : Type 0} (p : X → Bool) (xs : List X) (x : X) → list_all p xs ≡ true → Contains xs x → p x ≡ true
list_all_contains p [] x e (k, h, is) = absurd (omega arith)
list_all_contains p (y ∷ xs) x e (zero, h, is) = subst (λ z. p z ≡ true) is (and_parts (p y) (list_all p xs) e).0
list_all_contains p (y ∷ xs) x e (suc k, h, is) = list_all_contains p xs x (and_parts (p y) (list_all p xs) e).1 (k, omega arith, is)

pub list_any_contains : {X : Type 0} (p : X → Bool) (xs : List X) (x : X) → list_any p xs ≡ false → Contains xs x → p x ≡ false
list_any_contains p [] x e (k, h, is) = absurd (omega arith)
list_any_contains p (y ∷ xs) x e (zero, h, is) = subst (λ z. p z ≡ false) is (or_parts (p y) (list_any p xs) e).0
list_any_contains p (y ∷ xs) x e (suc k, h, is) = list_any_contains p xs x (or_parts (p y) (list_any p xs) e).1 (k, omega arith, is)

-- an element of a mapped list is the image of an element
pub Contains-map : {X Y : Type 0} (f : X → Y) (xs : List X) (x : X) → Contains xs x → Contains (map f xs) (f x)
Contains-map f [] x (k, h, is) = absurd (omega arith)
Contains-map f (y ∷ xs) x (zero, h, is) = (0, omega arith, ap f is)
Contains-map f (y ∷ xs) x (suc k, h, is) =
    let rest = Contains-map f xs x (k, omega arith, is) in
    (suc rest.0, omega arith, rest.2)

pub record Image {X Y : Type 0} (f : X → Y) (xs : List X) (y : Y) : Type 0 where
  pub from : X
  pub within : Contains xs from
  pub is : f from ≡ y

pub Contains-map_image : {X Y : Type 0} (f : X → Y) (xs : List X) (y : Y) → Contains (map f xs) y → Image f xs y
Contains-map_image f [] y (k, h, is) = absurd (omega arith)
Contains-map_image f (x ∷ xs) y (zero, h, is) = record { from = x; within = (0, omega arith, refl); is = is }
Contains-map_image f (x ∷ xs) y (suc k, h, is) =
    let rest = Contains-map_image f xs y (k, omega arith, is) in
    record { from = rest.from; within = (suc rest.within.0, omega arith, rest.within.2); is = rest.is }

-- a filter keeps exactly the elements that pass
pub Contains-filter : {X : Type 0} (p : X → Bool) (xs : List X) (x : X) → p x ≡ true → Contains xs x → Contains (filter p xs) x
Contains-filter p [] x e (k, h, is) = absurd (omega arith)
Contains-filter p (y ∷ xs) x e (zero, h, is) =
    subst (λ b. Contains (cond b (y ∷ filter p xs) (filter p xs)) x) (sym e ∙ ap p (sym is)) (0, omega arith, is)
Contains-filter p (y ∷ xs) x e (suc k, h, is) =
    let rest = Contains-filter p xs x e (k, omega arith, is) in
    elim (p y) as (λ b. Contains (cond b (y ∷ filter p xs) (filter p xs)) x) [ true ↦ (suc rest.0, omega arith, rest.2) | false ↦ rest ]

first_or_later : {X : Type 0} (p : X → Bool) (y : X) (xs : List X) (x : X) → p y ≡ true → (kept : List X) → (Contains kept x → Contains (y ∷ xs) x × (p x ≡ true)) → Contains (y ∷ kept) x → Contains (y ∷ xs) x × (p x ≡ true)
first_or_later p y xs x e kept later (zero, h, is) = ((0, omega arith, is), subst (λ z. p z ≡ true) is e)
first_or_later p y xs x e kept later (suc k, h, is) = later (k, omega arith, is)

pub Contains-filter_cases : {X : Type 0} (p : X → Bool) (xs : List X) (x : X) → Contains (filter p xs) x → Contains xs x × (p x ≡ true)
Contains-filter_cases p [] x (k, h, is) = absurd (omega arith)
Contains-filter_cases p (y ∷ xs) x c =
    let later : Contains (filter p xs) x → Contains (y ∷ xs) x × (p x ≡ true) =
    λ d. let rest = Contains-filter_cases p xs x d in ((suc rest.0.0, omega arith, rest.0.2), rest.1) in
    elim (p y) as (λ b. (p y ≡ b) → Contains (cond b (y ∷ filter p xs) (filter p xs)) x → Contains (y ∷ xs) x × (p x ≡ true)) [
      | true ↦ λ e d. first_or_later p y xs x e (filter p xs) later d
      | false ↦ λ e d. later d
    ] refl c

-- there are 2^n vectors of n values
pub length-all_vectors : (n : ℕ) → length (all_vectors n) ≡ 2 ^ n
length-all_vectors zero = refl
length-all_vectors (suc n) =
    simp (length-append, length-map) (omega (arith, length-all_vectors n))

-- each of them has n values, and each vector of n values is one of them
pub all_vectors_length : (n : ℕ) (v : Vector) → Contains (all_vectors n) v → length v ≡ n
all_vectors_length zero v (zero, h, is) = ap length (sym is)
all_vectors_length zero v (suc k, h, is) = absurd (omega arith)
all_vectors_length (suc n) v c =
    let at : (b : Bool) → Contains (map (λ w. b ∷ w) (all_vectors n)) v → length v ≡ suc n =
    λ b d. let image = Contains-map_image (λ w. b ∷ w) (all_vectors n) v d in
    sym (ap length image.is) ∙ ap suc (all_vectors_length n image.from image.within) in
    ⊎_elim (at false) (at true)
    (Contains-append_cases (map (λ w. false ∷ w) (all_vectors n)) (map (λ w. true ∷ w) (all_vectors n)) v c)

pub all_vectors_contains : (v : Vector) → Contains (all_vectors (length v)) v
all_vectors_contains [] = (0, omega arith, refl)
all_vectors_contains (false ∷ v) =
    Contains-append_left (map (λ w. false ∷ w) (all_vectors (length v))) (map (λ w. true ∷ w) (all_vectors (length v))) (false ∷ v)
    (Contains-map (λ w. false ∷ w) (all_vectors (length v)) v (all_vectors_contains v))
all_vectors_contains (true ∷ v) =
    Contains-append_right (map (λ w. false ∷ w) (all_vectors (length v))) (map (λ w. true ∷ w) (all_vectors (length v))) (true ∷ v)
    (Contains-map (λ w. true ∷ w) (all_vectors (length v)) v (all_vectors_contains v))

pub all_vectors_has : (n : ℕ) (v : Vector) → length v ≡ n → Contains (all_vectors n) v
all_vectors_has n v e = subst (λ k. Contains (all_vectors k) v) e (all_vectors_contains v)

pub list_any-map : {X Y : Type 0} (p : X → Bool) (h : Y → X) (ys : List Y) → list_any p (map h ys) ≡ list_any (λ y. p (h y)) ys
list_any-map p h [] = refl
list_any-map p h (y ∷ ys) = ap (λ b. p (h y) || b) (list_any-map p h ys)
