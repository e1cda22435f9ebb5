-- Lists of which each element stands in a relation to all that come after it.
use Rattle.std.proofs.Common.{◌≡◌, ℕ, zero, suc, ◌<◌, ◌≤◌, ◌+◌, List, [], ◌∷◌, ◌++◌, get_or, map, sym, ◌∙◌, subst, arith, ⊎_elim}
use Rattle.std.specs.List.{AllPairs, Contains, flat_map, range_with_len}
use Rattle.std.proofs.lemmas.List.{get_or_default}
use Rattle.std.proofs.lemmas.List.Elements.{Contains-append_cases}
use Rattle.list_laws.proofs.Elements.{Contains-cases, Contains-cons, Contains-head, Contains-nil, Contains-map-witness, Contains-flat_map-witness}

-- each element stands in the relation to all that come after it
abbrev pub Pairwise : {X : Type 0} → (X → X → Type 0) → List X → Type 0
Pairwise R [] = Unit {0}
Pairwise {X} R (x ∷ xs) = ((y : X) → Contains xs y → R x y) × Pairwise R xs

pub pairwise-weaker : {X : Type 0} (R S : X → X → Type 0) (xs : List X) → ((x y : X) → R x y → S x y) → Pairwise R xs → Pairwise S xs
pairwise-weaker R S [] weaker all = tt
pairwise-weaker R S (x ∷ xs) weaker all = (λ y c. weaker x y (all.0 y c), pairwise-weaker R S xs weaker all.1)

pub pairwise-append : {X : Type 0} (R : X → X → Type 0) (xs ys : List X) → Pairwise R xs → Pairwise R ys → ((x y : X) → Contains xs x → Contains ys y → R x y) → Pairwise R (xs ++ ys)
pairwise-append R [] ys one two across = two
pairwise-append R (x ∷ xs) ys one two across = (
  λ y c. ⊎_elim (λ d. one.0 y d) (λ d. across x y (Contains-head x xs) d) (Contains-append_cases xs ys y c),
  pairwise-append R xs ys one.1 two (λ z y d e. across z y (Contains-cons x xs z d) e),
)

pub pairwise-map : {X Y : Type 0} (R : Y → Y → Type 0) (f : X → Y) (xs : List X) → Pairwise (λ x y. R (f x) (f y)) xs → Pairwise R (map f xs)
pairwise-map R f [] all = tt
pairwise-map R f (x ∷ xs) all = (
  λ y c. let w = Contains-map-witness f xs y c in subst (R (f x)) w.2 (all.0 w.0 w.1),
  pairwise-map R f xs all.1,
)

pub pairwise-flat_map : {X Y : Type 0} (S : X → X → Type 0) (R : Y → Y → Type 0) (f : X → List Y) (xs : List X) → Pairwise S xs → ((x : X) → Contains xs x → Pairwise R (f x))
    → ((x z : X) (y w : Y) → S x z → Contains (f x) y → Contains (f z) w → R y w) → Pairwise R (flat_map f xs)
pairwise-flat_map S R f [] apart each across = tt
pairwise-flat_map S R f (x ∷ xs) apart each across =
    pairwise-append R (f x) (flat_map f xs) (each x (Contains-head x xs)) (pairwise-flat_map S R f xs apart.1 (λ z c. each z (Contains-cons x xs z c)) across)
    (λ y w c d. let at = Contains-flat_map-witness f xs w d in across x at.0 y w (apart.0 at.0 at.1) c at.2)

-- rising numbers
range_from : (a n k : ℕ) → Contains (range_with_len a n) k → a < k + 1
range_from a zero k c = let l : c.0 < 0 = c.1 in absurd (omega arith)
range_from a (suc n) k c = ⊎_elim
    (λ (e : a ≡ k). omega arith)
    (λ (d : Contains (range_with_len (a + 1) n) k). let l = range_from (a + 1) n k d in omega arith)
    (Contains-cases a (range_with_len (a + 1) n) k c)

pub pairwise-range : (a n : ℕ) → Pairwise (λ i j. i < j) (range_with_len a n)
pairwise-range a zero = tt
pairwise-range a (suc n) = (λ k c. let l = range_from (a + 1) n k c in omega arith, pairwise-range (a + 1) n)

-- of elements that stand in no relation twice, one alone has a property
pub only_one : {X : Type 0} (P : X → Type 0) (xs : List X) → Pairwise (λ x y. P x → P y → ⊥) xs → (x y : X) → Contains xs x → Contains xs y → P x → P y → x ≡ y
only_one P [] apart x y c d p q = absurd (Contains-nil x c)
only_one P (z ∷ zs) apart x y c d p q = ⊎_elim
    (λ (e : z ≡ x). ⊎_elim (λ (f : z ≡ y). sym e ∙ f) (λ (f : Contains zs y). absurd (apart.0 y f (subst P (sym e) p) q)) (Contains-cases z zs y d))
    (λ (e : Contains zs x). ⊎_elim (λ (f : z ≡ y). absurd (apart.0 x e (subst P (sym f) q) p)) (λ (f : Contains zs y). only_one P zs apart.1 x y e f p q) (Contains-cases z zs y d))
    (Contains-cases z zs x c)

-- the same by places
pub pairwise_all : {X : Type 0} (R : X → X → Type 0) (xs : List X) → Pairwise R xs → AllPairs R xs
pairwise_all R [] all i j d less below = absurd (omega arith)
pairwise_all R (x ∷ xs) all zero zero d less below = absurd (omega arith)
pairwise_all R (x ∷ xs) all (suc i) zero d less below = absurd (omega arith)
pairwise_all R (x ∷ xs) all zero (suc j) d less below = all.0 (get_or xs j d) (j, omega arith, get_or_default xs j (get_or xs j d) d (omega arith))
pairwise_all R (x ∷ xs) all (suc i) (suc j) d less below = pairwise_all R xs all.1 i j d (omega arith) (omega arith)

pub range_bounds : (a n k : ℕ) → Contains (range_with_len a n) k → (a ≤ k) × (k < a + n)
range_bounds a zero k c = let l : c.0 < 0 = c.1 in absurd (omega arith)
range_bounds a (suc n) k c = ⊎_elim
    (λ (e : a ≡ k). (omega arith, omega arith))
    (λ (d : Contains (range_with_len (a + 1) n) k). let l = range_bounds (a + 1) n k d in let low = l.0 in let high = l.1 in (omega arith, omega arith))
    (Contains-cases a (range_with_len (a + 1) n) k c)
