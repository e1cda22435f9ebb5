-- The elements of a list: of a list with one more, of a map, a filter, a flat map and a range, and
-- tests over a list against its elements.
use Rattle.std.proofs.Common.{◌≡◌, ◌≢◌, ℕ, zero, suc, ◌+◌, ◌<◌, ◌≤◌, Bool, true, false, cond, List, [], ◌∷◌, ◌++◌, length, get_or, take, None, Some, refl, sym, ap, ◌∙◌, subst, arith, append_assoc, inl, inr, ⊎_elim}
use Rattle.std.specs.Prelude.{map, slice_get, ◌||◌, ◌⊎◌}
use Rattle.std.specs.List.{All, Contains, list_any, list_all, find, filter, flat_map, range_with_len}
use Rattle.std.proofs.lemmas.Bool.{false≢true, true≢false, or_cases, or_left, or_right, or_parts, or_from, and_parts, and_from, cond-true, cond-false}
use Rattle.std.proofs.lemmas.List.Elements.{All-more, Contains-append_left, Contains-append_right, Contains-append_cases}
use Rattle.std.proofs.lemmas.List.{get_or-map, length-map, take_all}
use Rattle.std.proofs.lemmas.List.FromFn.{length-range_with_len, get_or-range_with_len}
use Rattle.std.proofs.lemmas.Option.{none-some, same_Some, slice_get_within, get_or_from_slice_get}

pub Contains-head : {X : Type 0} (x : X) (xs : List X) → Contains (x ∷ xs) x
Contains-head x xs = (0, omega arith, refl)

pub Contains-cons : {X : Type 0} (x : X) (xs : List X) (y : X) → Contains xs y → Contains (x ∷ xs) y
Contains-cons x xs y c = let l : c.0 < length xs = c.1 in (suc c.0, omega arith, c.2)

pub Contains-nil : {X : Type 0} (y : X) → Contains [] y → ⊥
Contains-nil y c = let l : c.0 < 0 = c.1 in omega arith

pub Contains-cases : {X : Type 0} (x : X) (xs : List X) (y : X) → Contains (x ∷ xs) y → (x ≡ y) ⊎ Contains xs y
Contains-cases {X} x xs y c = go c.0 c.1 c.2
  where
    go : (k : ℕ) → k < length (x ∷ xs) → get_or (x ∷ xs) k y ≡ y → (x ≡ y) ⊎ Contains xs y
    go zero l e = inl e
    go (suc k) l e = inr (k, omega arith, e)

-- a test over a list, by the list's elements
pub list_any-from : {X : Type 0} (p : X → Bool) (xs : List X) (x : X) → Contains xs x → p x ≡ true → list_any p xs ≡ true
list_any-from p [] x c h = absurd (Contains-nil x c)
list_any-from p (y ∷ ys) x c h = ⊎_elim (λ e. or_left (p y) (list_any p ys) (ap p e ∙ h)) (λ d. or_right (p y) (list_any p ys) (list_any-from p ys x d h)) (Contains-cases y ys x c)

pub list_any-witness : {X : Type 0} (p : X → Bool) (xs : List X) → list_any p xs ≡ true → (x : X) × Contains xs x × (p x ≡ true)
list_any-witness p [] h = absurd (false≢true h)
list_any-witness p (y ∷ ys) h = ⊎_elim (λ e. (y, Contains-head y ys, e)) (λ d. let w = list_any-witness p ys d in (w.0, Contains-cons y ys w.0 w.1, w.2)) (or_cases (p y) (list_any p ys) h)

pub list_any-none : {X : Type 0} (p : X → Bool) (xs : List X) → ((x : X) → Contains xs x → p x ≡ false) → list_any p xs ≡ false
list_any-none p [] h = refl
list_any-none p (y ∷ ys) h = or_from (p y) (list_any p ys) (h y (Contains-head y ys)) (list_any-none p ys (λ x c. h x (Contains-cons y ys x c)))

pub list_any-false : {X : Type 0} (p : X → Bool) (xs : List X) (x : X) → list_any p xs ≡ false → Contains xs x → p x ≡ false
list_any-false p xs x h c = go (p x) refl
  where
    go : (b : Bool) → p x ≡ b → p x ≡ false
    go true e = absurd (true≢false (sym (list_any-from p xs x c e) ∙ h))
    go false e = e

pub list_all-at : {X : Type 0} (p : X → Bool) (xs : List X) (x : X) → list_all p xs ≡ true → Contains xs x → p x ≡ true
list_all-at p [] x h c = absurd (Contains-nil x c)
list_all-at p (y ∷ ys) x h c = let b = and_parts (p y) (list_all p ys) h in ⊎_elim (λ e. ap p (sym e) ∙ b.0) (λ d. list_all-at p ys x b.1 d) (Contains-cases y ys x c)

pub list_all-from : {X : Type 0} (p : X → Bool) (xs : List X) → ((x : X) → Contains xs x → p x ≡ true) → list_all p xs ≡ true
list_all-from p [] h = refl
list_all-from p (y ∷ ys) h = and_from (p y) (list_all p ys) (h y (Contains-head y ys)) (list_all-from p ys (λ x c. h x (Contains-cons y ys x c)))

-- and one element more that passes
pub list_all-more : {X : Type 0} (p : X → Bool) (xs : List X) (x : X) → list_all p xs ≡ true → p x ≡ true → list_all p (xs ++ x ∷ []) ≡ true
list_all-more p [] x h e = and_from (p x) true e refl
list_all-more p (y ∷ ys) x h e = let b = and_parts (p y) (list_all p ys) h in and_from (p y) (list_all p (ys ++ x ∷ [])) b.0 (list_all-more p ys x b.1 e)

-- two tests that agree at each element
pub list_any-agree : {X : Type 0} (p q : X → Bool) (xs : List X) → ((x : X) → Contains xs x → p x ≡ q x) → list_any p xs ≡ list_any q xs
list_any-agree p q [] h = refl
list_any-agree p q (y ∷ ys) h = let a = h y (Contains-head y ys) in let b = list_any-agree p q ys (λ x c. h x (Contains-cons y ys x c)) in cc

pub list_all-agree : {X : Type 0} (p q : X → Bool) (xs : List X) → ((x : X) → Contains xs x → p x ≡ q x) → list_all p xs ≡ list_all q xs
list_all-agree p q [] h = refl
list_all-agree p q (y ∷ ys) h = let a = h y (Contains-head y ys) in let b = list_all-agree p q ys (λ x c. h x (Contains-cons y ys x c)) in cc

-- the first element that passes a test
pub find-None : {X : Type 0} (p : X → Bool) (xs : List X) → list_any p xs ≡ false → find p xs ≡ None
find-None p [] h = refl
find-None p (y ∷ ys) h = let b = or_parts (p y) (list_any p ys) h in cond-false (p y) (Some y) (find p ys) b.0 ∙ find-None p ys b.1

pub find-Some : {X : Type 0} (p : X → Bool) (xs : List X) → list_any p xs ≡ true → (x : X) × (find p xs ≡ Some x)
find-Some p [] h = absurd (false≢true h)
find-Some {X} p (y ∷ ys) h = go (p y) refl (find-Some p ys)
  where
    go : (b : Bool) → p y ≡ b → (list_any p ys ≡ true → (x : X) × (find p ys ≡ Some x)) → (x : X) × (cond (p y) (Some y) (find p ys) ≡ Some x)
    go true e rest = (y, cond-true (p y) (Some y) (find p ys) e)
    go false e rest = let w = rest (⊎_elim (λ t. absurd (true≢false (sym t ∙ e))) (λ d. d) (or_cases (p y) (list_any p ys) h)) in (w.0, cond-false (p y) (Some y) (find p ys) e ∙ w.1)

pub find-found : {X : Type 0} (p : X → Bool) (xs : List X) (x : X) → find p xs ≡ Some x → Contains xs x × (p x ≡ true)
find-found p [] x h = absurd (none-some x h)
find-found {X} p (y ∷ ys) x h = go (p y) refl (find-found p ys x)
  where
    go : (b : Bool) → p y ≡ b → (find p ys ≡ Some x → Contains ys x × (p x ≡ true)) → Contains (y ∷ ys) x × (p x ≡ true)
    go true e rest = let same : y ≡ x = same_Some y x (sym (cond-true (p y) (Some y) (find p ys) e) ∙ h) in (subst (λ z. Contains (y ∷ ys) z) same (Contains-head y ys), ap p (sym same) ∙ e)
    go false e rest = let w = rest (sym (cond-false (p y) (Some y) (find p ys) e) ∙ h) in (Contains-cons y ys x w.0, w.1)

-- one more number at the end of a range
pub range_with_len-last : (a n : ℕ) → range_with_len a (suc n) ≡ range_with_len a n ++ (a + n) ∷ []
range_with_len-last a zero = let e : a + 0 ≡ a = omega arith in rw e
range_with_len-last a (suc n) = let e : a + suc n ≡ (a + 1) + n = omega arith in rw e (ap (λ (xs : List ℕ). a ∷ xs) (range_with_len-last (a + 1) n))

pub Contains-range_with_len : (n k : ℕ) → k < n → Contains (range_with_len 0 n) k
Contains-range_with_len n k l = (k, omega (arith, length-range_with_len 0 n), get_or-range_with_len 0 n k k l ∙ omega arith)

pub Contains-range_with_len-below : (n k : ℕ) → Contains (range_with_len 0 n) k → k < n
Contains-range_with_len-below n k c = let l : c.0 < n = omega (arith, c.1, length-range_with_len 0 n) in let e : 0 + c.0 ≡ k = sym (get_or-range_with_len 0 n c.0 k l) ∙ c.2 in omega arith

-- the elements of a map, a filter and a flat map
pub Contains-map : {X Y : Type 0} (f : X → Y) (xs : List X) (x : X) → Contains xs x → Contains (map f xs) (f x)
Contains-map f [] x c = absurd (Contains-nil x c)
Contains-map f (y ∷ ys) x c = ⊎_elim (λ e. subst (λ z. Contains (f y ∷ map f ys) z) (ap f e) (Contains-head (f y) (map f ys))) (λ d. Contains-cons (f y) (map f ys) (f x) (Contains-map f ys x d)) (Contains-cases y ys x c)

pub Contains-map-witness : {X Y : Type 0} (f : X → Y) (xs : List X) (y : Y) → Contains (map f xs) y → (x : X) × Contains xs x × (f x ≡ y)
Contains-map-witness f [] y c = absurd (Contains-nil y c)
Contains-map-witness f (x ∷ xs) y c = ⊎_elim (λ e. (x, Contains-head x xs, e)) (λ d. let w = Contains-map-witness f xs y d in (w.0, Contains-cons x xs w.0 w.1, w.2)) (Contains-cases (f x) (map f xs) y c)

pub Contains-filter : {X : Type 0} (p : X → Bool) (xs : List X) (x : X) → Contains xs x → p x ≡ true → Contains (filter p xs) x
Contains-filter p [] x c h = c
Contains-filter {X} p (y ∷ ys) x c h = go (p y) refl (λ d. Contains-filter p ys x d h)
  where
    go : (b : Bool) → p y ≡ b → (Contains ys x → Contains (filter p ys) x) → Contains (cond b (y ∷ filter p ys) (filter p ys)) x
    go true e rest = ⊎_elim (λ s. subst (λ z. Contains (y ∷ filter p ys) z) s (Contains-head y (filter p ys))) (λ d. Contains-cons y (filter p ys) x (rest d)) (Contains-cases y ys x c)
    go false e rest = ⊎_elim (λ s. absurd (true≢false (sym (ap p s ∙ h) ∙ e))) (λ d. rest d) (Contains-cases y ys x c)

pub Contains-filter-witness : {X : Type 0} (p : X → Bool) (xs : List X) (x : X) → Contains (filter p xs) x → Contains xs x × (p x ≡ true)
Contains-filter-witness p [] x c = absurd (Contains-nil x c)
Contains-filter-witness {X} p (y ∷ ys) x c = go (p y) refl (Contains-filter-witness p ys x) c
  where
    go : (b : Bool) → p y ≡ b → (Contains (filter p ys) x → Contains ys x × (p x ≡ true)) → Contains (cond b (y ∷ filter p ys) (filter p ys)) x → Contains (y ∷ ys) x × (p x ≡ true)
    go true e rest d = ⊎_elim (λ s. (subst (λ z. Contains (y ∷ ys) z) s (Contains-head y ys), ap p (sym s) ∙ e)) (λ t. let w = rest t in (Contains-cons y ys x w.0, w.1)) (Contains-cases y (filter p ys) x d)
    go false e rest d = let w = rest d in (Contains-cons y ys x w.0, w.1)

pub Contains-flat_map : {X Y : Type 0} (f : X → List Y) (xs : List X) (x : X) (y : Y) → Contains xs x → Contains (f x) y → Contains (flat_map f xs) y
Contains-flat_map f [] x y c d = absurd (Contains-nil x c)
Contains-flat_map f (z ∷ zs) x y c d = ⊎_elim (λ s. Contains-append_left (f z) (flat_map f zs) y (subst (λ t. Contains (f t) y) (sym s) d)) (λ t. Contains-append_right (f z) (flat_map f zs) y (Contains-flat_map f zs x y t d)) (Contains-cases z zs x c)

pub Contains-flat_map-witness : {X Y : Type 0} (f : X → List Y) (xs : List X) (y : Y) → Contains (flat_map f xs) y → (x : X) × Contains xs x × Contains (f x) y
Contains-flat_map-witness f [] y c = absurd (Contains-nil y c)
Contains-flat_map-witness f (z ∷ zs) y c = ⊎_elim (λ d. (z, Contains-head z zs, d)) (λ d. let w = Contains-flat_map-witness f zs y d in (w.0, Contains-cons z zs w.0 w.1, w.2)) (Contains-append_cases (f z) (flat_map f zs) y c)

-- a test over a map
pub list_any-map : {X Y : Type 0} (p : Y → Bool) (f : X → Y) (xs : List X) → list_any p (map f xs) ≡ list_any (λ x. p (f x)) xs
list_any-map p f [] = refl
list_any-map p f (x ∷ xs) = ap (λ b. p (f x) || b) (list_any-map p f xs)

-- two functions that give one list over a list agree at each of its elements
pub map-agree : {X Y : Type 0} (f g : X → Y) (xs : List X) (x : X) → map f xs ≡ map g xs → Contains xs x → f x ≡ g x
map-agree f g [] x e c = absurd (Contains-nil x c)
map-agree f g (y ∷ ys) x e c = let first : f y ≡ g y = cc in let others : map f ys ≡ map g ys = cc in ⊎_elim (λ s. ap f (sym s) ∙ (first ∙ ap g s)) (λ d. map-agree f g ys x others d) (Contains-cases y ys x c)

-- a list that isn't empty has an element
pub some_element : {X : Type 0} (xs : List X) → xs ≢ [] → (x : X) × Contains xs x
some_element [] some = absurd (some refl)
some_element (x ∷ xs) some = (x, Contains-head x xs)

-- what holds for all of an image holds for the elements that it is the image of
pub All-unmap : {X Y : Type 0} (P : X → Type 0) (f : Y → X) (ys : List Y) → All P (map f ys) → All (λ y. P (f y)) ys
All-unmap P f ys all k d lt = subst P (get_or-map f ys k d (f d) lt) (all k (f d) (subst (λ n. k < n) (sym (length-map ys f)) lt))

-- a list by its places
pub map-range : {X Y : Type 0} (f : ℕ → Y) (g : X → Y) (xs : List X) (a : ℕ) → ((k : ℕ) (x : X) → slice_get xs k ≡ Some x → f (a + k) ≡ g x) → map f (range_with_len a (length xs)) ≡ map g xs
map-range f g [] a same = refl
map-range f g (x ∷ xs) a same =
    let here : f a ≡ g x = ap f (omega arith) ∙ same 0 x refl in
    let rest = map-range f g xs (a + 1) (λ k y e. ap f (omega arith) ∙ same (suc k) y e) in
    ap (λ w. w ∷ map f (range_with_len (a + 1) (length xs))) here ∙ ap (λ ws. g x ∷ ws) rest

-- the map of a map
pub map-map : {X Y Z : Type 0} (g : Y → Z) (h : X → Y) (xs : List X) → map g (map h xs) ≡ map (λ x. g (h x)) xs
map-map g h [] = refl
map-map g h (x ∷ xs) = ap (λ l. g (h x) ∷ l) (map-map g h xs)

-- the element at a place
pub contains_at : {X : Type 0} (xs : List X) (k : ℕ) (x : X) → slice_get xs k ≡ Some x → Contains xs x
contains_at xs k x e = (k, slice_get_within xs k x e, get_or_from_slice_get xs k x x e)

-- a pass over a list that has come one element further, or to the end
pub one_reached : {X : Type 0} (P : X → Type 0) (xs : List X) (i : ℕ) (x : X) → i < length xs → x ≡ get_or xs i x → All P (take i xs) → P x → All P (take (i + 1) xs)
one_reached P xs i x h is all here = All-more P xs i x h all (subst P is here)

pub all_reached : {X : Type 0} (P : X → Type 0) (xs ys : List X) (i : ℕ) → length xs ≤ i → xs ≡ ys → All P (take i xs) → All P ys
all_reached P xs ys i past same all = subst (All P) (take_all i xs past ∙ same) all

-- lists that are appended one after another
pub pushed_two : {X : Type 0} (old a b mid new : List X) → mid ≡ old ++ a → new ≡ mid ++ b → new ≡ old ++ (a ++ b)
pushed_two old a b mid new first second = second ∙ ap (λ xs. xs ++ b) first ∙ append_assoc old a b

pub pushed_four : {X : Type 0} (old a b c d m1 m2 m3 new : List X) → m1 ≡ old ++ a → m2 ≡ m1 ++ b → m3 ≡ m2 ++ c → new ≡ m3 ++ d → new ≡ old ++ (((a ++ b) ++ c) ++ d)
pushed_four old a b c d m1 m2 m3 new e f g h =
    pushed_two old ((a ++ b) ++ c) d m3 new (pushed_two old (a ++ b) c m2 m3 (pushed_two old a b m1 m2 e f) g) h
