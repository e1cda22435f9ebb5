-- Membership in a list, and lists whose elements all differ, by recursion on the list.
use Rattle.std.proofs.Common.{◌≡◌, ◌≢◌, ℕ, zero, suc, ◌+◌, ◌<◌, ◌≤◌, Bool, true, false, ◌⊎◌, inl, inr, ◌||◌, List, [], ◌∷◌, ◌++◌, map, length, get_or, Some, refl, sym, ◌∙◌, ap, subst, arith, cond}
use Rattle.std.specs.Prelude.{slice_get}
use Rattle.std.specs.List.{All, AllPairs, Contains, flat_map, filter, list_all, list_any, enumerate_from, range_with_len}
use Rattle.std.proofs.lemmas.Bool.{false≢true, and_from, and_parts, or_left, or_right, cases_eq}
use Rattle.std.proofs.lemmas.List.Elements.{All-cons, All-nil}
use Rattle.std.proofs.lemmas.List.Kept.{AllPairs-cons}
use Rattle.std.proofs.lemmas.List.{length-append}
use Rattle.std.proofs.lemmas.Option.{none-some, same_Some}
use Rattle.list_laws.proofs.Distinct as distinct

-- x is an element
abbrev pub Among : {X : Type 0} → X → List X → Type 0
Among x [] = ⊥
Among x (y ∷ ys) = (y ≡ x) ⊎ Among x ys

-- the elements all differ
abbrev pub Apart : {X : Type 0} → List X → Type 0
Apart [] = Unit {0}
Apart (x ∷ xs) = (Among x xs → ⊥) × Apart xs

pub Among-append_left : {X : Type 0} (x : X) (xs ys : List X) → Among x xs → Among x (xs ++ ys)
Among-append_left x [] ys h = absurd h
Among-append_left x (z ∷ xs) ys (inl e) = inl e
Among-append_left x (z ∷ xs) ys (inr h) = inr (Among-append_left x xs ys h)

pub Among-append_right : {X : Type 0} (x : X) (xs ys : List X) → Among x ys → Among x (xs ++ ys)
Among-append_right x [] ys h = h
Among-append_right x (z ∷ xs) ys h = inr (Among-append_right x xs ys h)

pub Among-append_cases : {X : Type 0} (x : X) (xs ys : List X) → Among x (xs ++ ys) → Among x xs ⊎ Among x ys
Among-append_cases x [] ys h = inr h
Among-append_cases x (z ∷ xs) ys (inl e) = inl (inl e)
Among-append_cases x (z ∷ xs) ys (inr h) = widen (Among-append_cases x xs ys h)
  where
    widen : Among x xs ⊎ Among x ys → ((z ≡ x) ⊎ Among x xs) ⊎ Among x ys
    widen (inl k) = inl (inr k)
    widen (inr k) = inr k

-- an element of a list that is made of another's
pub Among-map : {X Y : Type 0} (f : X → Y) (x : X) (xs : List X) → Among x xs → Among (f x) (map f xs)
Among-map f x [] h = absurd h
Among-map f x (z ∷ xs) (inl e) = inl (ap f e)
Among-map f x (z ∷ xs) (inr h) = inr (Among-map f x xs h)

pub Among-map_from : {X Y : Type 0} (f : X → Y) (y : Y) (xs : List X) → Among y (map f xs) → (x : X) × Among x xs × (f x ≡ y)
Among-map_from f y [] h = absurd h
Among-map_from f y (x ∷ xs) (inl e) = (x, inl refl, e)
Among-map_from f y (x ∷ xs) (inr h) = let rest = Among-map_from f y xs h in (rest.0, inr rest.1, rest.2)

pub Among-flat_map_from : {X Y : Type 0} (f : X → List Y) (y : Y) (xs : List X) → Among y (flat_map f xs) → (x : X) × Among x xs × Among y (f x)
Among-flat_map_from f y [] h = absurd h
Among-flat_map_from {X} f y (x ∷ xs) h =
    elim (Among-append_cases y (f x) (flat_map f xs) h) as (λ _. (w : X) × Among w (x ∷ xs) × Among y (f w)) [
      | inl k ↦ (x, inl refl, k)
      | inr k ↦ let rest = Among-flat_map_from f y xs k in (rest.0, inr rest.1, rest.2)
    ]

pub Among-filter_from : {X : Type 0} (p : X → Bool) (x : X) (xs : List X) → Among x (filter p xs) → Among x xs × (p x ≡ true)
Among-filter_from p x [] h = absurd h
Among-filter_from p x (y ∷ xs) h = by_test (p y) refl (λ k. Among-filter_from p x xs k) h
  where
    kept : p y ≡ true → (Among x (filter p xs) → Among x xs × (p x ≡ true)) → (y ≡ x) ⊎ Among x (filter p xs) → Among x (y ∷ xs) × (p x ≡ true)
    kept is rest (inl e) = (inl e, subst (λ z. p z ≡ true) e is)
    kept is rest (inr k) = (inr (rest k).0, (rest k).1)

    by_test : (b : Bool) → p y ≡ b → (Among x (filter p xs) → Among x xs × (p x ≡ true)) → Among x (filter p (y ∷ xs)) → Among x (y ∷ xs) × (p x ≡ true)
    by_test true is rest k = kept is rest (subst (λ t. Among x (cond t (y ∷ filter p xs) (filter p xs))) is k)
    by_test false is rest k = let found = rest (subst (λ t. Among x (cond t (y ∷ filter p xs) (filter p xs))) is k) in (inr found.0, found.1)

-- an element that passes a test
pub Among-from_list_any : {X : Type 0} (p : X → Bool) (xs : List X) → list_any p xs ≡ true → (x : X) × Among x xs × (p x ≡ true)
Among-from_list_any p [] h = absurd (false≢true h)
Among-from_list_any {X} p (x ∷ xs) h = by_test (p x) refl (λ k. Among-from_list_any p xs k)
  where
    by_test : (b : Bool) → p x ≡ b → (list_any p xs ≡ true → (w : X) × Among w xs × (p w ≡ true)) → (w : X) × Among w (x ∷ xs) × (p w ≡ true)
    by_test true is rest = (x, inl refl, is)
    by_test false is rest =
        let found = rest (sym (ap (λ b. b || list_any p xs) is) ∙ h) in (found.0, inr found.1, found.2)

pub Among-slice_get : {X : Type 0} (xs : List X) (k : ℕ) (x : X) → slice_get xs k ≡ Some x → Among x xs
Among-slice_get [] k x h = absurd (none-some x h)
Among-slice_get (y ∷ xs) zero x h = inl (same_Some y x h)
Among-slice_get (y ∷ xs) (suc k) x h = inr (Among-slice_get xs k x h)

-- lists whose elements differ

pub Apart-append : {X : Type 0} (xs ys : List X) → Apart xs → Apart ys → ((x : X) → Among x xs → Among x ys → ⊥) → Apart (xs ++ ys)
Apart-append [] ys ax ay apart = ay
Apart-append (x ∷ xs) ys ax ay apart = (fresh, Apart-append xs ys ax.1 ay (λ z h k. apart z (inr h) k))
  where
    of_cases : Among x xs ⊎ Among x ys → ⊥
    of_cases (inl h) = ax.0 h
    of_cases (inr h) = apart x (inl refl) h

    fresh : Among x (xs ++ ys) → ⊥
    fresh h = of_cases (Among-append_cases x xs ys h)

pub Apart-filter : {X : Type 0} (p : X → Bool) (xs : List X) → Apart xs → Apart (filter p xs)
Apart-filter p [] h = tt
Apart-filter p (x ∷ xs) h = by_test (p x) refl (Apart-filter p xs h.1)
  where
    by_test : (b : Bool) → p x ≡ b → Apart (filter p xs) → Apart (filter p (x ∷ xs))
    by_test true is rest = rw is ((λ k. h.0 (Among-filter_from p x xs k).0), rest)
    by_test false is rest = rw is rest

-- by a function that keeps the elements of the list apart
pub Apart-map : {X Y : Type 0} (f : X → Y) (xs : List X) → ((x y : X) → Among x xs → Among y xs → f x ≡ f y → x ≡ y) → Apart xs → Apart (map f xs)
Apart-map f [] injective h = tt
Apart-map f (x ∷ xs) injective h =
    (fresh, Apart-map f xs (λ y z k l e. injective y z (inr k) (inr l) e) h.1)
  where
    fresh : Among (f x) (map f xs) → ⊥
    fresh k =
        let from = Among-map_from f (f x) xs k in
        h.0 (subst (λ z. Among z xs) (injective from.0 x (inr from.1) (inl refl) from.2) from.1)

-- pieces that are put together, whose elements have the key of their piece
pub Apart-flat_map : {X Y K : Type 0} (f : X → List Y) (key : X → K) (key_of : Y → K) (xs : List X)
    → ((x : X) (y : Y) → Among x xs → Among y (f x) → key_of y ≡ key x) → ((x : X) → Among x xs → Apart (f x)) → Apart (map key xs) → Apart (flat_map f xs)
Apart-flat_map f key key_of [] keys pieces h = tt
Apart-flat_map f key key_of (x ∷ xs) keys pieces h =
    Apart-append (f x) (flat_map f xs) (pieces x (inl refl))
    (Apart-flat_map f key key_of xs (λ y z k l. keys y z (inr k) l) (λ y k. pieces y (inr k)) h.1)
    (λ y k l.
    let from = Among-flat_map_from f y xs l in
    let same : key from.0 ≡ key x = sym (keys from.0 y (inr from.1) from.2) ∙ keys x y (inl refl) k in
    h.0 (subst (λ z. Among z (map key xs)) same (Among-map key from.0 xs from.1)))

-- a run of numbers
pub Among-range : (x a n : ℕ) → Among x (range_with_len a n) → (a ≤ x) × (x < a + n)
Among-range x a zero h = absurd h
Among-range x a (suc n) (inl e) = (omega arith, omega arith)
Among-range x a (suc n) (inr h) = let rest = Among-range x (a + 1) n h in let low = rest.0 in let high = rest.1 in (omega arith, omega arith)

pub Apart-range : (a n : ℕ) → Apart (range_with_len a n)
Apart-range a zero = tt
Apart-range a (suc n) = ((λ h. let low = (Among-range a (a + 1) n h).0 in omega arith), Apart-range (a + 1) n)

pub numbers_are : {X : Type 0} (a : ℕ) (xs : List X) → map (λ (e : ℕ × X). e.0) (enumerate_from a xs) ≡ range_with_len a (length xs)
numbers_are a [] = refl
numbers_are a (x ∷ xs) = ap (λ ns. a ∷ ns) (numbers_are (a + 1) xs)

-- std's words for the same
all_others : {X : Type 0} (x : X) (xs : List X) → (Among x xs → ⊥) → All (λ y. x ≢ y) xs
all_others x [] h = All-nil (λ y. x ≢ y)
all_others x (y ∷ xs) h = All-cons (λ z. x ≢ z) y xs (λ e. h (inl (sym e))) (all_others x xs (λ k. h (inr k)))

pub AllPairs-from_Apart : {X : Type 0} (xs : List X) → Apart xs → AllPairs (λ x y. x ≢ y) xs
AllPairs-from_Apart [] h = λ i j d below within. absurd (omega arith)
AllPairs-from_Apart (x ∷ xs) h = AllPairs-cons (λ y z. y ≢ z) x xs (all_others x xs h.0) (AllPairs-from_Apart xs h.1)

pub All-from_Among : {X : Type 0} (P : X → Type 0) (xs : List X) → ((x : X) → Among x xs → P x) → All P xs
All-from_Among P [] h = All-nil P
All-from_Among P (x ∷ xs) h = All-cons P x xs (h x (inl refl)) (All-from_Among P xs (λ y k. h y (inr k)))

-- the other way round
pub Among-flat_map : {X Y : Type 0} (f : X → List Y) (x : X) (y : Y) (xs : List X) → Among x xs → Among y (f x) → Among y (flat_map f xs)
Among-flat_map f x y [] h k = absurd h
Among-flat_map f x y (z ∷ xs) (inl e) k = Among-append_left y (f z) (flat_map f xs) (subst (λ w. Among y (f w)) (sym e) k)
Among-flat_map f x y (z ∷ xs) (inr h) k = Among-append_right y (f z) (flat_map f xs) (Among-flat_map f x y xs h k)

pub Among-filter : {X : Type 0} (p : X → Bool) (x : X) (xs : List X) → Among x xs → p x ≡ true → Among x (filter p xs)
Among-filter p x [] h e = absurd h
Among-filter p x (y ∷ xs) (inl is) e = subst (λ t. Among x (cond t (y ∷ filter p xs) (filter p xs))) (sym (ap p is ∙ e)) (inl is)
Among-filter p x (y ∷ xs) (inr h) e = by_test (p y) refl (Among-filter p x xs h e)
  where
    by_test : (b : Bool) → p y ≡ b → Among x (filter p xs) → Among x (filter p (y ∷ xs))
    by_test true is rest = rw is (inr rest)
    by_test false is rest = rw is rest

pub list_any-from_Among : {X : Type 0} (p : X → Bool) (x : X) (xs : List X) → Among x xs → p x ≡ true → list_any p xs ≡ true
list_any-from_Among p x [] h e = absurd h
list_any-from_Among p x (y ∷ xs) (inl is) e = or_left (p y) (list_any p xs) (ap p is ∙ e)
list_any-from_Among p x (y ∷ xs) (inr h) e = or_right (p y) (list_any p xs) (list_any-from_Among p x xs h e)

pub list_all-from_Among : {X : Type 0} (p : X → Bool) (xs : List X) → ((x : X) → Among x xs → p x ≡ true) → list_all p xs ≡ true
list_all-from_Among p [] h = refl
list_all-from_Among p (x ∷ xs) h = and_from (p x) (list_all p xs) (h x (inl refl)) (list_all-from_Among p xs (λ y k. h y (inr k)))

pub passes_Among : {X : Type 0} (p : X → Bool) (x : X) (xs : List X) → list_all p xs ≡ true → Among x xs → p x ≡ true
passes_Among p x [] h k = absurd k
passes_Among p x (y ∷ xs) h (inl e) = subst (λ z. p z ≡ true) e (and_parts (p y) (list_all p xs) h).0
passes_Among p x (y ∷ xs) h (inr k) = passes_Among p x xs (and_parts (p y) (list_all p xs) h).1 k

pub All-Among : {X : Type 0} (P : X → Type 0) (x : X) (xs : List X) → All P xs → Among x xs → P x
All-Among P x [] all k = absurd k
All-Among P x (y ∷ xs) all (inl is) = subst P is (all 0 y (omega arith))
All-Among P x (y ∷ xs) all (inr k) = All-Among P x xs (λ n z within. all (suc n) z (omega arith)) k

pub Among-get_or : {X : Type 0} (xs : List X) (k : ℕ) (d : X) → k < length xs → Among (get_or xs k d) xs
Among-get_or [] k d h = absurd (omega arith)
Among-get_or (x ∷ xs) zero d h = inl refl
Among-get_or (x ∷ xs) (suc k) d h = inr (Among-get_or xs k d (omega arith))

pub Among-in_range : (x a n : ℕ) → a ≤ x → x < a + n → Among x (range_with_len a n)
Among-in_range x a zero low high = absurd (omega arith)
Among-in_range x a (suc n) low high =
    elim (cases_eq a x) as (λ _. Among x (range_with_len a (suc n))) [
      | inl e ↦ inl e
      | inr ne ↦ inr (Among-in_range x (a + 1) n (let above : a ≢ x = ne in grind arith) (omega arith))
    ]

pub numbered_from : {X : Type 0} (xs : List X) (b k : ℕ) (x : X) → slice_get xs k ≡ Some x → Among (b + k, x) (enumerate_from b xs)
numbered_from [] b k x h = absurd (none-some x h)
numbered_from (y ∷ xs) b zero x h = inl (λ i. (same b i, same_Some y x h i))
  where
    same : (m : ℕ) → m ≡ m + 0
    same m = omega arith
numbered_from {X} (y ∷ xs) b (suc k) x h =
    inr (subst (λ m. Among (m, x) (enumerate_from (b + 1) xs)) (next b k) (numbered_from xs (b + 1) k x h))
  where
    next : (m j : ℕ) → m + 1 + j ≡ m + suc j
    next m j = omega arith

-- std's word for membership
pub Among-from_Contains : {X : Type 0} (xs : List X) (x : X) → Contains xs x → Among x xs
Among-from_Contains xs x h = subst (λ y. Among y xs) h.2 (Among-get_or xs h.0 x h.1)

pub Contains-from_Among : {X : Type 0} (xs : List X) (x : X) → Among x xs → Contains xs x
Contains-from_Among [] x h = absurd h
Contains-from_Among (y ∷ xs) x (inl e) = (0, omega arith, e)
Contains-from_Among (y ∷ xs) x (inr h) = let rest = Contains-from_Among xs x h in (suc rest.0, omega arith, rest.2)

pub Apart-from_AllPairs : {X : Type 0} (xs : List X) → AllPairs (λ x y. x ≢ y) xs → Apart xs
Apart-from_AllPairs [] h = tt
Apart-from_AllPairs (x ∷ xs) h = (fresh, Apart-from_AllPairs xs (λ i j d below within. h (suc i) (suc j) d (omega arith) (omega arith)))
  where
    fresh : Among x xs → ⊥
    fresh k = let at = Contains-from_Among xs x k in let within = at.1 in h 0 (suc at.0) x (omega arith) (omega arith) (sym at.2)

-- different elements of a list are no more than it has
pub Apart-few : {X : Type 0} (xs ys : List X) → Apart xs → ((x : X) → Among x xs → Among x ys) → length xs ≤ length ys
Apart-few {X} xs ys apart there = distinct.Apart-few xs ys (all_differ xs apart) (λ x c. Contains-from_Among ys x (there x (Among-from_Contains xs x c)))
  where
    all_differ : (zs : List X) → Apart zs → distinct.Apart zs
    all_differ [] h = tt
    all_differ (z ∷ zs) h = (λ c. h.0 (Among-from_Contains zs z c), all_differ zs h.1)
