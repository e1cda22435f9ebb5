-- Lists of vectors and those of them that are states.
use Rattle.std.proofs.Common.{◌≡◌, ℕ, ◌+◌, ◌<◌, suc, Bool, true, false, cond, ◌&&◌, ◌||◌, List, [], ◌∷◌, ◌++◌, map, take, drop, length, get_or, Option, Some, None, refl, sym, ◌∙◌, ap, arith, slice_get}
use Rattle.std.specs.List.{filter, filter_map, cons_option, list_any, range_with_len}
use Rattle.std.specs.Option.{option_and_then}
use Rattle.std.proofs.lemmas.Bool.{false≢true}
use Rattle.std.proofs.lemmas.List.{drop_more, map-append, take_more}
use Rattle.std.proofs.lemmas.List.Elements.{filter-append}

-- where each element passes, the filter keeps the whole list, and some element passes
pub filter_all : {X : Type 0} (p : X → Bool) (xs : List X) → ((x : X) → p x ≡ true) → filter p xs ≡ xs
filter_all p [] all = refl
filter_all p (x ∷ xs) all =
    ap (λ b. cond b (x ∷ filter p xs) (filter p xs)) (all x) ∙ ap (λ ys. x ∷ ys) (filter_all p xs all)

pub any_of_all : {X : Type 0} (p : X → Bool) (xs : List X) → ((x : X) → p x ≡ true) → 0 < length xs → list_any p xs ≡ true
any_of_all p [] all some = absurd (omega arith)
any_of_all p (x ∷ xs) all some = ap (λ b. b || list_any p xs) (all x)

-- an element of the rest of a list passes, or the one more doesn't
at_rest : {X : Type 0} (p : X → Bool) (xs : List X) (i : ℕ) (x : X) → i < length xs → x ≡ get_or xs i x → list_any p (drop i xs) ≡ (p x || list_any p (drop (i + 1) xs))
at_rest p xs i x within is =
    ap (list_any p) (drop_more xs i x within) ∙ ap (λ y. p y || list_any p (drop (i + 1) xs)) (sym is)

pub any_here : {X : Type 0} (p : X → Bool) (xs : List X) (i : ℕ) (x : X) → i < length xs → x ≡ get_or xs i x → p x ≡ true → list_any p (drop i xs) ≡ true
any_here p xs i x within is e = at_rest p xs i x within is ∙ ap (λ b. b || list_any p (drop (i + 1) xs)) e

pub any_later : {X : Type 0} (p : X → Bool) (xs : List X) (i : ℕ) (x : X) → i < length xs → x ≡ get_or xs i x → p x ≡ false → list_any p (drop (i + 1) xs) ≡ list_any p (drop i xs)
any_later p xs i x within is e = sym (at_rest p xs i x within is ∙ ap (λ b. b || list_any p (drop (i + 1) xs)) e)

-- the filter keeps some element exactly where one passes
kept_some : {X : Type 0} (p : X → Bool) (xs : List X) → list_any p xs ≡ true → filter p xs ≡ [] → ⊥
kept_some p [] e none = false≢true e
kept_some p (x ∷ xs) e none =
    elim (p x) as (λ b. (b || list_any p xs) ≡ true → cond b (x ∷ filter p xs) (filter p xs) ≡ [] → ⊥) [
      | true ↦ λ e none. cc
      | false ↦ λ e none. kept_some p xs e none
    ] e none

kept_none : {X : Type 0} (p : X → Bool) (xs : List X) → list_any p xs ≡ false → filter p xs ≡ []
kept_none p [] e = refl
kept_none p (x ∷ xs) e =
    elim (p x) as (λ b. (b || list_any p xs) ≡ false → cond b (x ∷ filter p xs) (filter p xs) ≡ []) [
      | true ↦ λ e. absurd (false≢true (sym e))
      | false ↦ λ e. kept_none p xs e
    ] e

pub next_some : {X : Type 0} (b : Bool) (p : X → Bool) (xs : List X) → (b && list_any p xs) ≡ true → cond b (filter p xs) [] ≡ [] → ⊥
next_some true p xs e none = kept_some p xs e none
next_some false p xs e none = false≢true e

pub next_none : {X : Type 0} (b : Bool) (p : X → Bool) (xs : List X) → (b && list_any p xs) ≡ false → cond b (filter p xs) [] ≡ []
next_none true p xs e = kept_none p xs e
next_none false p xs e = refl

-- one element more
pub kept_more : {X Y : Type 0} (p : Y → Bool) (f : X → Y) (xs : List X) (i : ℕ) (x : X) (ys : List Y) → i < length xs → x ≡ get_or xs i x → ys ≡ filter p (map f (take i xs)) → ys ++ filter p (f x ∷ []) ≡ filter p (map f (take (i + 1) xs))
kept_more p f xs i x ys within is so_far =
    ap (λ zs. zs ++ filter p (f x ∷ [])) so_far
    ∙ sym (filter-append p (map f (take i xs)) (f x ∷ []))
    ∙ ap (filter p) (sym (map-append f (take i xs) (x ∷ [])))
    ∙ ap (λ zs. filter p (map f zs)) (sym (take_more xs i x within ∙ ap (λ y. take i xs ++ y ∷ []) (sym is)))

-- the elements that a filter keeps are those at rising places
kept_step : {X : Type 0} (b : Bool) (x : X) (ys : List X) → cond b (x ∷ ys) ys ≡ cons_option (cond b (Some x) None) ys
kept_step true x ys = refl
kept_step false x ys = refl

numbered_from : {X : Type 0} (p : X → Bool) (at : ℕ → Option X) (xs : List X) (a : ℕ) → ((k : ℕ) (x : X) → slice_get xs k ≡ Some x → at (a + k) ≡ cond (p x) (Some x) None) → filter p xs ≡ filter_map at (range_with_len a (length xs))
numbered_from p at [] a same = refl
numbered_from p at (x ∷ xs) a same =
    let here : at a ≡ cond (p x) (Some x) None = ap at (omega arith) ∙ same 0 x refl in
    let rest = numbered_from p at xs (a + 1) (λ k y e. ap at (omega arith) ∙ same (suc k) y e) in
    kept_step (p x) x (filter p xs)
    ∙ ap (λ o. cons_option o (filter p xs)) (sym here)
    ∙ ap (λ ys. cons_option (at a) ys) rest

none_numbered : (X : Type 0) (ks : List ℕ) → filter_map {Y = X} (λ (k : ℕ). None) ks ≡ []
none_numbered X [] = refl
none_numbered X (k ∷ ks) = none_numbered X ks

pub next_numbered : {X : Type 0} (b : Bool) (p : X → Bool) (xs : List X) → cond b (filter p xs) [] ≡ filter_map (λ k. cond b (option_and_then (λ x. cond (p x) (Some x) None) (slice_get xs k)) None) (range_with_len 0 (length xs))
next_numbered true p xs =
    numbered_from p (λ k. option_and_then (λ x. cond (p x) (Some x) None) (slice_get xs k)) xs 0
    (λ k x e. ap (option_and_then (λ x. cond (p x) (Some x) None)) (ap (slice_get xs) (omega arith) ∙ e))
next_numbered {X} false p xs = sym (none_numbered X (range_with_len 0 (length xs)))
