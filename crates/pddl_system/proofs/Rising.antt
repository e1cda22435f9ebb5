-- Lists in order: rising lists, and that one list of different elements is in order.
use Rattle.std.proofs.Common.{◌≡◌, ℕ, zero, suc, ◌+◌, ◌<◌, ◌≤◌, Bool, true, false, ◌⊎◌, inl, inr, List, [], ◌∷◌, ◌++◌, map, length, get_or, refl, sym, ◌∙◌, ap, subst, arith}
use Rattle.std.specs.Cmp.{IsTotalOrder}
use Rattle.std.specs.Cmp.Lexicographic.{slice_cmp}
use Rattle.std.specs.Ordering.{is_lt, nat_cmp, ordering_reverse, ordering_then}
use Rattle.std.specs.declared.cmp.Ordering.{Ordering}
use Rattle.std.specs.declared.cmp.Ordering.TheVariants.{Less, Equal, Greater}
use Rattle.std.specs.List.{filter, flat_map, range_with_len}
use Rattle.std.specs.List.Sorted.{IsSorted}
use Rattle.std.proofs.lemmas.Bool.{eq-eqb, le-ltb, lt-ltb, false≢true, true≢false}
use Rattle.std.proofs.lemmas.List.Sorted.{ranks_by, sorted_far}
use Rattle.pddl_system.specs.Objects.{bindings}
use Rattle.pddl_system.proofs.Members.{Among, Apart, Among-append_cases, Among-filter_from, Among-flat_map_from, Among-map_from, Among-map, Among-range, Contains-from_Among}

-- each element is less than all later ones
abbrev pub Rising : {X : Type 0} → (X → X → Ordering) → List X → Type 0
Rising R [] = Unit {0}
Rising {X} R (x ∷ xs) = ((y : X) → Among y xs → R x y ≡ Less) × Rising R xs

-- no later element is less
abbrev pub InOrder : {X : Type 0} → (X → X → Ordering) → List X → Type 0
InOrder R [] = Unit {0}
InOrder {X} R (x ∷ xs) = ((y : X) → Among y xs → is_lt (R y x) ≡ false) × InOrder R xs

pub Rising-filter : {X : Type 0} (R : X → X → Ordering) (p : X → Bool) (xs : List X) → Rising R xs → Rising R (filter p xs)
Rising-filter R p [] h = tt
Rising-filter R p (x ∷ xs) h = by_test (p x) refl (Rising-filter R p xs h.1)
  where
    by_test : (b : Bool) → p x ≡ b → Rising R (filter p xs) → Rising R (filter p (x ∷ xs))
    by_test true is rest = rw is ((λ y k. h.0 y (Among-filter_from p y xs k).0), rest)
    by_test false is rest = rw is rest

Rising-append : {X : Type 0} (R : X → X → Ordering) (xs ys : List X) → Rising R xs → Rising R ys → ((x y : X) → Among x xs → Among y ys → R x y ≡ Less) → Rising R (xs ++ ys)
Rising-append R [] ys hx hy cross = hy
Rising-append {X} R (x ∷ xs) ys hx hy cross = (first, Rising-append R xs ys hx.1 hy (λ a b k l. cross a b (inr k) l))
  where
    first : (y : X) → Among y (xs ++ ys) → R x y ≡ Less
    first y k =
        elim (Among-append_cases y xs ys k) as (λ _. R x y ≡ Less) [
          | inl l ↦ hx.0 y l
          | inr l ↦ cross x y (inl refl) l
        ]

pub Rising-map : {X Y : Type 0} (S : X → X → Ordering) (R : Y → Y → Ordering) (f : X → Y) → ((x y : X) → S x y ≡ Less → R (f x) (f y) ≡ Less) → (xs : List X) → Rising S xs → Rising R (map f xs)
Rising-map S R f keeps [] h = tt
Rising-map {X} {Y} S R f keeps (x ∷ xs) h = (first, Rising-map S R f keeps xs h.1)
  where
    first : (y : Y) → Among y (map f xs) → R (f x) y ≡ Less
    first y k =
        let from = Among-map_from f y xs k in
        subst (λ z. R (f x) z ≡ Less) from.2 (keeps x from.0 (h.0 from.0 from.1))

pub Rising-from_map : {X Y : Type 0} (R : Y → Y → Ordering) (f : X → Y) (xs : List X) → Rising R (map f xs) → Rising (λ x y. R (f x) (f y)) xs
Rising-from_map R f [] h = tt
Rising-from_map R f (x ∷ xs) h = ((λ y k. h.0 (f y) (Among-map f y xs k)), Rising-from_map R f xs h.1)

-- pieces that rise, where those of a lesser piece are less
pub Rising-flat_map : {X Y : Type 0} (S : X → X → Ordering) (R : Y → Y → Ordering) (f : X → List Y) → ((x : X) → Rising R (f x))
    → ((x z : X) (y w : Y) → S x z ≡ Less → Among y (f x) → Among w (f z) → R y w ≡ Less) → (xs : List X) → Rising S xs → Rising R (flat_map f xs)
Rising-flat_map S R f pieces cross [] h = tt
Rising-flat_map {X} {Y} S R f pieces cross (x ∷ xs) h =
    Rising-append R (f x) (flat_map f xs) (pieces x) (Rising-flat_map S R f pieces cross xs h.1) later
  where
    later : (y w : Y) → Among y (f x) → Among w (flat_map f xs) → R y w ≡ Less
    later y w k l =
        let from = Among-flat_map_from f w xs l in
        cross x from.0 y w (h.0 from.0 from.1) k from.2

-- numbers
pub number_less : (m n : ℕ) → m < n → nat_cmp m n ≡ Less
number_less m n h = rw (lt-ltb m n h) refl

pub number_same : (n : ℕ) → nat_cmp n n ≡ Equal
number_same n = rw (le-ltb n n (omega arith), eq-eqb n n refl) refl

pub Rising-range : (a n : ℕ) → Rising nat_cmp (range_with_len a n)
Rising-range a zero = tt
Rising-range a (suc n) =
    ((λ y k. number_less a y (let low = (Among-range y (a + 1) n k).0 in omega arith)), Rising-range (a + 1) n)

-- bindings rise where the objects of each type do
pub Rising-bindings : (objects : ℕ → List ℕ) → ((t : ℕ) → Rising nat_cmp (objects t)) → (types : List ℕ) → Rising (slice_cmp nat_cmp) (bindings objects types)
Rising-bindings objects rising [] = ((λ y k. absurd k), tt)
Rising-bindings objects rising (t ∷ ts) =
    Rising-flat_map nat_cmp (slice_cmp nat_cmp) (λ o. map (λ rest. o ∷ rest) (bindings objects ts))
    (λ o. Rising-map (slice_cmp nat_cmp) (slice_cmp nat_cmp) (λ rest. o ∷ rest)
    (λ x y less. ap (λ r. ordering_then r (slice_cmp nat_cmp x y)) (number_same o) ∙ less) (bindings objects ts) (Rising-bindings objects rising ts))
    cross (objects t) (rising t)
  where
    cross : (o u : ℕ) (y w : List ℕ) → nat_cmp o u ≡ Less → Among y (map (λ rest. o ∷ rest) (bindings objects ts)) → Among w (map (λ rest. u ∷ rest) (bindings objects ts)) → slice_cmp nat_cmp y w ≡ Less
    cross o u y w less k l =
        let first = Among-map_from (λ rest. o ∷ rest) y (bindings objects ts) k in
        let second = Among-map_from (λ rest. u ∷ rest) w (bindings objects ts) l in
        subst (λ z. slice_cmp nat_cmp z w ≡ Less) first.2
        (subst (λ z. slice_cmp nat_cmp (o ∷ first.0) z ≡ Less) second.2
        (ap (λ r. ordering_then r (slice_cmp nat_cmp first.0 second.0)) less))

-- lists in order of the same different elements are one

is_less : (r : Ordering) → r ≡ Less → is_lt r ≡ true
is_less r e = ap is_lt e

module _ {X : Type 0} (R : X → X → Ordering) (total : IsTotalOrder R) where
  never_less : (x : X) → R x x ≡ Less → ⊥
  never_less x e =
      let turned : Less ≡ Greater = sym e ∙ (total.antisymm x x ∙ ap ordering_reverse e) in
      true≢false (ap is_lt turned)

  pub same_in_order : (xs ys : List X) → InOrder R xs → Apart xs → Rising R ys → ((x : X) → Among x xs → Among x ys) → ((x : X) → Among x ys → Among x xs) → xs ≡ ys
  same_in_order [] [] order apart rising there back = refl
  same_in_order [] (y ∷ ys) order apart rising there back = absurd (back y (inl refl))
  same_in_order (x ∷ xs) [] order apart rising there back = absurd (there x (inl refl))
  same_in_order (x ∷ xs) (y ∷ ys) order apart rising there back =
      ap (λ z. z ∷ xs) heads
      ∙ ap (λ zs. y ∷ zs) (same_in_order xs ys order.1 apart.1 rising.1 (λ z k. still_there z k (there z (inr k))) (λ z k. still_back z k (back z (inr k))))
    where
      heads : x ≡ y
      heads =
          elim (there x (inl refl)) as (λ _. x ≡ y) [
            | inl e ↦ sym e
            | inr k ↦ elim (back y (inl refl)) as (λ _. x ≡ y) [
              | inl e ↦ e
              | inr l ↦ absurd (false≢true (sym (order.0 y l) ∙ is_less (R y x) (rising.0 x k)))
            ]
          ]

      still_there : (z : X) → Among z xs → (y ≡ z) ⊎ Among z ys → Among z ys
      still_there z k (inl e) = absurd (apart.0 (subst (λ w. Among w xs) (sym (heads ∙ e)) k))
      still_there z k (inr l) = l

      still_back : (z : X) → Among z ys → (x ≡ z) ⊎ Among z xs → Among z xs
      still_back z k (inl e) = absurd (never_less y (rising.0 y (subst (λ w. Among w ys) (sym e ∙ heads) k)))
      still_back z k (inr l) = l

  -- what std's word for a sorted list says of all later elements
  pub InOrder-from_sorted : (xs : List X) → IsSorted R xs → InOrder R xs
  InOrder-from_sorted [] sorted = tt
  InOrder-from_sorted (x ∷ xs) sorted = (later, InOrder-from_sorted xs (λ k d low high. subst (λ m. is_lt (R (get_or (x ∷ xs) m d) (get_or xs k d)) ≡ false) (next k) (sorted (suc k) d (omega arith) (omega arith))))
    where
      next : (k : ℕ) → suc k + 1 ≡ suc (k + 1)
      next k = omega arith

      later : (y : X) → Among y xs → is_lt (R y x) ≡ false
      later y k =
          let at = Contains-from_Among xs y k in
          let far = sorted_far (λ a b. is_lt (R a b)) (ranks_by total (λ a. a)) (x ∷ xs) sorted 0 (suc at.0) y (omega arith) (let within = at.1 in omega arith) in
          subst (λ z. is_lt (R z x) ≡ false) at.2 far

  Rising-InOrder : (xs : List X) → Rising R xs → InOrder R xs
  Rising-InOrder [] h = tt
  Rising-InOrder (x ∷ xs) h = ((λ y k. ap is_lt (total.antisymm y x ∙ ap ordering_reverse (h.0 y k))), Rising-InOrder xs h.1)

  sorted_from_InOrder : (xs : List X) → InOrder R xs → IsSorted R xs
  sorted_from_InOrder [] h = λ k d low high. absurd (omega arith)
  sorted_from_InOrder (x ∷ []) h = λ k d low high. absurd (omega arith)
  sorted_from_InOrder (x ∷ y ∷ xs) h = at (sorted_from_InOrder (y ∷ xs) h.1)
    where
      next : (k : ℕ) → suc (k + 1) ≡ suc k + 1
      next k = omega arith

      at : IsSorted R (y ∷ xs) → (k : ℕ) (d : X) → 0 ≤ k → k + 1 < length (x ∷ y ∷ xs) → is_lt (R (get_or (x ∷ y ∷ xs) (k + 1) d) (get_or (x ∷ y ∷ xs) k d)) ≡ false
      at rest zero d low high = h.0 y (inl refl)
      at rest (suc k) d low high =
          subst (λ m. is_lt (R (get_or (x ∷ y ∷ xs) m d) (get_or (y ∷ xs) k d)) ≡ false) (next k) (rest k d (omega arith) (omega arith))

  pub sorted_from_Rising : (xs : List X) → Rising R xs → IsSorted R xs
  sorted_from_Rising xs h = sorted_from_InOrder xs (Rising-InOrder xs h)
