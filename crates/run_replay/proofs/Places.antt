-- A list of which each element is changed in turn.
use Rattle.std.proofs.Common.{◌≡◌, ℕ, suc, ◌+◌, ◌<◌, ◌≤◌, List, [], ◌∷◌, length, get_or, set, arith, refl, sym, ap, subst, take, take_all, drop, ◌++◌, ◌∙◌, ◌⊎◌, inl, inr}
use Rattle.std.specs.List.{AllZip}
use Rattle.std.proofs.lemmas.Bool.{cases_lt}
use Rattle.std.proofs.lemmas.Grind.{get_or-set_at}
use Rattle.std.proofs.lemmas.List.{get_or_default, get_or-set_other, take-append-le}

-- the elements before a place are changed as R says, and the others are as before
pub record IsChangedUpTo {X : Type 0} (R : X → X → Type 0) (place : ℕ) (before after : List X) : Type 0 where
  pub changed : (i : ℕ) (d : X) → i < place → i < length before → R (get_or before i d) (get_or after i d)
  pub kept : (i : ℕ) (d : X) → place ≤ i → get_or after i d ≡ get_or before i d

pub none_changed : {X : Type 0} (R : X → X → Type 0) (xs : List X) → IsChangedUpTo R 0 xs xs
none_changed R xs = record { changed = λ i d lt _. absurd (omega (arith, lt)); kept = λ i d _. refl }

pub all_zip_of : {X : Type 0} (R : X → X → Type 0) (xs ys : List X) → length ys ≡ length xs
    → ((i : ℕ) (d : X) → i < length xs → R (get_or xs i d) (get_or ys i d)) → AllZip R xs ys
all_zip_of R [] [] same each = tt
all_zip_of R [] (y ∷ ys) same each = absurd (omega (arith, same))
all_zip_of R (x ∷ xs) [] same each = absurd (omega (arith, same))
all_zip_of R (x ∷ xs) (y ∷ ys) same each = (each 0 x (omega arith), all_zip_of R xs ys (omega (arith, same)) (λ i d lt. each (suc i) d (omega (arith, lt))))

-- zs is the list of before under another name. What a vector of it holds after ys was written back:
-- of ys, and of what stood behind, the first n elements
pub all_changed : {X : Type 0} (R : X → X → Type 0) (place n : ℕ) (xs zs ys : List X) → xs ≡ zs → n ≡ length zs → length ys ≡ length xs
    → length xs ≤ place → IsChangedUpTo R place xs ys → AllZip R zs (take n (ys ++ drop (length ys) zs))
all_changed R place n xs zs ys e long same past up =
    let whole : take n (ys ++ drop (length ys) zs) ≡ ys =
    take-append-le n ys (drop (length ys) zs) (omega (arith, same, long, ap length e)) ∙ take_all n ys (omega (arith, same, long, ap length e)) in
    rw whole (subst (λ l. AllZip R l ys) e (all_zip_of R xs ys same (λ i d lt. up.changed i d (omega (arith, past, lt)) lt)))

at_or_before : {X : Type 0} (R : X → X → Type 0) (place i : ℕ) (xs ys : List X) (x y d : X) → length ys ≡ length xs
    → i < length xs → x ≡ get_or ys place x → R x y → IsChangedUpTo R place xs ys
    → (i < place) ⊎ (place ≤ i) → i < place + 1 → R (get_or xs i d) (get_or (set ys place y) i d)
at_or_before R place i xs ys x y d same within is changes up (inl lt) below =
    rw (get_or-set_other ys place i y d (omega (arith, lt))) (up.changed i d lt within)
at_or_before R place i xs ys x y d same within is changes up (inr ge) below =
    let e : i ≡ place = omega (arith, ge, below) in
    let found : get_or xs i d ≡ x = sym (up.kept i d ge) ∙ ap (λ k. get_or ys k d) e ∙ get_or_default ys place d x (omega (arith, within, same, e)) ∙ sym is in
    rw (found, get_or-set_at ys place i y d e (omega (arith, within, same, e))) changes

pub one_more_changed : {X : Type 0} (R : X → X → Type 0) (place : ℕ) (xs ys : List X) (x y : X) → length ys ≡ length xs
    → place < length xs → x ≡ get_or ys place x → R x y → IsChangedUpTo R place xs ys → IsChangedUpTo R (place + 1) xs (set ys place y)
one_more_changed R place xs ys x y same lt is changes up = record {
  changed = λ i d below within. at_or_before R place i xs ys x y d same within is changes up (cases_lt i place) below;
  kept = λ i d past. get_or-set_other ys place i y d (omega (arith, past)) ∙ up.kept i d (omega (arith, past));
}
