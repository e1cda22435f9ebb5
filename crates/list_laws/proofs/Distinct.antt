-- Lists of different elements: an element with what stands around it, and that different elements of
-- a list are no more than it has.
use Rattle.std.proofs.Common.{◌≡◌, ◌≢◌, ℕ, zero, suc, ◌+◌, ◌<◌, ◌≤◌, List, [], ◌∷◌, ◌++◌, length, refl, sym, ap, subst, ◌∙◌, arith, ⊎_elim}
use Rattle.std.specs.List.{AllPairs, Contains}
use Rattle.std.proofs.lemmas.List.{length-append}
use Rattle.list_laws.proofs.Elements.{Contains-cases, Contains-cons, Contains-head, Contains-nil}

-- no element stands again after itself
abbrev pub Apart : {X : Type 0} → List X → Type 0
Apart [] = Unit {0}
Apart (x ∷ xs) = (Contains xs x → ⊥) × Apart xs

-- an element, with what stands before and after it
pub record Around {X : Type 0} (x : X) (xs : List X) : Type 0 where
  pub front : List X
  pub back : List X
  pub is : xs ≡ front ++ x ∷ back

pub around : {X : Type 0} (x : X) (xs : List X) → Contains xs x → Around x xs
around x [] h = absurd (Contains-nil x h)
around {X} x (y ∷ xs) h =
    ⊎_elim (λ e. here e) (λ k. later (around x xs k)) (Contains-cases y xs x h)
  where
    here : y ≡ x → Around x (y ∷ xs)
    here e = record { front = []; back = xs; is = ap (λ z. z ∷ xs) e }

    later : Around x xs → Around x (y ∷ xs)
    later rest = record { front = y ∷ rest.front; back = rest.back; is = ap (λ zs. y ∷ zs) rest.is }

pub elsewhere : {X : Type 0} (x : X) (front back : List X) (z : X) → (x ≡ z → ⊥) → Contains (front ++ x ∷ back) z → Contains (front ++ back) z
elsewhere x [] back z other h = ⊎_elim (λ e. absurd (other e)) (λ k. k) (Contains-cases x back z h)
elsewhere x (y ∷ front) back z other h =
    ⊎_elim (λ e. subst (λ w. Contains (y ∷ (front ++ back)) w) e (Contains-head y (front ++ back)))
    (λ k. Contains-cons y (front ++ back) z (elsewhere x front back z other k)) (Contains-cases y (front ++ x ∷ back) z h)

pub Apart-few : {X : Type 0} (xs ys : List X) → Apart xs → ((x : X) → Contains xs x → Contains ys x) → length xs ≤ length ys
Apart-few [] ys apart there = omega arith
Apart-few (x ∷ xs) ys apart there =
    let at = around x ys (there x (Contains-head x xs)) in
    let fewer = Apart-few xs (at.front ++ at.back) apart.1
    (λ z k. elsewhere x at.front at.back z (λ e. apart.0 (subst (λ w. Contains xs w) (sym e) k)) (subst (λ zs. Contains zs z) at.is (there z (Contains-cons x xs z k)))) in
    let all_of_them : length ys ≡ length at.front + suc (length at.back) = ap length at.is ∙ length-append at.front (x ∷ at.back) in
    let others = length-append at.front at.back in
    omega arith

-- std's word for it, at a list with one more
pub rest_once : {X : Type 0} (x : X) (xs : List X) → AllPairs (λ i j. i ≢ j) (x ∷ xs) → AllPairs (λ i j. i ≢ j) xs
rest_once x xs once i j d l h = once (suc i) (suc j) d (omega arith) (omega arith)

pub first_once : {X : Type 0} (x : X) (xs : List X) → AllPairs (λ i j. i ≢ j) (x ∷ xs) → Contains xs x → ⊥
first_once x xs once c = let l : c.0 < length xs = c.1 in once zero (suc c.0) x (omega arith) (omega arith) (sym c.2)
