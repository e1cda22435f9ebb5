-- Names that are all different, and their numbers.
use Rattle.std.proofs.Common.{◌≡◌, ℕ, zero, suc, ◌+◌, ◌<◌, ◌≤◌, Bool, true, false, List, [], ◌∷◌, length, get_or, take, map, cond, not, inl, inr, refl, ap, sym, subst, ◌∙◌, arith}
use Rattle.std.specs.Prelude.{Option, Some, None, position, nat_lt}
use Rattle.std.specs.List.{list_any, position_or_len}
use Rattle.std.specs.Str.{bytes_eq}
use Rattle.std.specs.Bool.{Decides}
use Rattle.std.specs.Cmp.Lexicographic.{pointwise}
use Rattle.std.proofs.lemmas.Bool.Decides.{nat_tests}
use Rattle.std.proofs.lemmas.Slice.Eq.{slice_eq-Decides, bytes_eq-Decides}
use Rattle.std.proofs.lemmas.List.Folds.{list_any_none}
use Rattle.std.proofs.lemmas.List.Quantifiers.{position-Some}
use Rattle.std.proofs.lemmas.List.{get_or-take, get_or-map, length-take-le, length-map, take-map}
use Rattle.task_core.specs.Names.{Name, AreDistinct}
use Rattle.plan_rules.specs.Readings.{number_of_name}
use Rattle.list_laws.proofs.Numbers.{trichotomy}

pub same_name : (v w : Name) → Decides (pointwise bytes_eq v w) (v ≡ w)
same_name v w = slice_eq-Decides bytes_eq-Decides v w (pointwise bytes_eq v w) refl

pub differs : {P : Type 0} (b : Bool) → Decides b P → (P → ⊥) → b ≡ false
differs true d apart = absurd (apart (d.0 refl))
differs false d apart = refl

-- the name of an item is not among those of the items before it, where all are different
pub fresh : {X : Type 0} (f : X → Name) (xs : List X) (i : ℕ) (x : X) → AreDistinct (map f xs) → i < length xs → x ≡ get_or xs i x → list_any (pointwise bytes_eq (f x)) (map f (take i xs)) ≡ false
fresh f xs i x distinct within is =
    let names : List Name = map f xs in
    let long : length names ≡ length xs = length-map xs f in
    subst (λ (ns : List Name). list_any (pointwise bytes_eq (f x)) ns ≡ false) (take-map f i xs)
    (list_any_none (pointwise bytes_eq (f x)) (take i (map f xs)) (λ k d below.
    let short : length (take i (map f xs)) ≡ i = length-take-le i (map f xs) (omega arith) in
    let before : k < i = omega arith in
    let there : get_or (take i (map f xs)) k d ≡ get_or (map f xs) k d = get_or-take i (map f xs) k d before in
    let here : get_or (map f xs) i d ≡ f x = get_or-map f xs i x d within ∙ ap f (sym is) in
    differs (pointwise bytes_eq (f x) (get_or (take i (map f xs)) k d)) (same_name (f x) (get_or (take i (map f xs)) k d))
    (λ e. distinct k i d before (omega arith) (sym there ∙ (sym e ∙ sym here)))))

by-position : (p : Name → Bool) (x : Name) (xs : List Name) (n : ℕ) (v : Bool) → p x ≡ v → position_or_len p xs ≤ n → cond (not v) (1 + position_or_len p xs) 0 ≤ suc n
by-position p x xs n true e h = omega arith
by-position p x xs n false e h = omega arith

place-before : (p : Name → Bool) (xs : List Name) (n : ℕ) (d : Name) → n < length xs → p (get_or xs n d) ≡ true → position_or_len p xs ≤ n
place-before p [] n d within e = absurd (omega arith)
place-before p (x ∷ xs) zero d within e = rw e (omega arith)
place-before p (x ∷ xs) (suc n) d within e = by-position p x xs n (p x) refl (place-before p xs n d (omega arith) e)

found-before : (p : Name → Bool) (xs : List Name) (n : ℕ) (d : Name) → n < length xs → p (get_or xs n d) ≡ true → position p xs ≡ Some (position_or_len p xs)
found-before p xs n d within e =
    let before : position_or_len p xs ≤ n = place-before p xs n d within e in
    let test : nat_lt (position_or_len p xs) (length xs) ≡ true = grind (arith, nat_tests) in
    ap (λ b. cond b (Some (position_or_len p xs)) None) test

-- names that are all different have different numbers
same-number : (names : List Name) (i j : ℕ) → AreDistinct names → i < length names → j < length names → get_or names i [] ≡ get_or names j [] → i ≡ j
same-number names i j distinct in_i in_j e = elim (trichotomy i j) [
  | inl lt ↦ absurd (distinct i j [] lt in_j e)
  | inr (inl same) ↦ same
  | inr (inr lt) ↦ absurd (distinct j i [] lt in_i (sym e))
]

-- the number of a name, where all are different
known-at : (names : List Name) (n : ℕ) → AreDistinct names → n < length names → (o : Option ℕ) → number_of_name names (get_or names n []) ≡ o → o ≡ Some n
known-at names n distinct within None e =
    let test : Name → Bool = pointwise bytes_eq (get_or names n []) in
    let found : number_of_name names (get_or names n []) ≡ Some (position_or_len test names) =
    found-before test names n [] within ((same_name (get_or names n []) (get_or names n [])).1 refl) in
    absurd (let none : ⊥ = cc in none)
known-at names n distinct within (Some m) e =
    let at = position-Some (pointwise bytes_eq (get_or names n [])) names m [] e in
    ap Some (same-number names m n distinct at.0 within (sym ((same_name (get_or names n []) (get_or names m [])).0 at.1)))

pub number-known : (names : List Name) (n : ℕ) → AreDistinct names → n < length names → number_of_name names (get_or names n []) ≡ Some n
number-known names n distinct within = known-at names n distinct within (number_of_name names (get_or names n [])) refl
