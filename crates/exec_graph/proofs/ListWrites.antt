-- One element of a list written, and one more element read.
use Rattle.std.proofs.Common.{◌≡◌, ◌≢◌, ℕ, ◌+◌, ◌<◌, ◌≤◌, ◌==◌, true, false, cond, List, [], ◌∷◌, ◌++◌, length, take, slice_get, slice_index_or, Some, sym, ap, ◌∙◌, subst, ⊎_elim}
use Rattle.std.specs.List.{filter, slice_set}
use Rattle.std.specs.Option.{option_map_or}
use Rattle.std.proofs.lemmas.Bool.{cases_lt, cases_eq, eq-eqb, ne_eqb}
use Rattle.std.proofs.lemmas.List.{length-set, get_or-set_same, get_or-set_other, take_more, append-nil}
use Rattle.std.proofs.lemmas.List.Elements.{filter-append}
use Rattle.std.proofs.lemmas.Option.{slice_get_past, slice_get-get_or}

pub slice_get-set_same : {X : Type 0} (xs : List X) (k : ℕ) (v : X) → k < length xs → slice_get (slice_set xs k v) k ≡ Some v
slice_get-set_same xs k v h =
    slice_get-get_or (slice_set xs k v) k v (subst (λ n. k < n) (sym (length-set xs k v)) h) ∙ ap Some (get_or-set_same xs k v v h)

pub slice_get-set_other : {X : Type 0} (xs : List X) (k j : ℕ) (v : X) → j ≢ k → slice_get (slice_set xs k v) j ≡ slice_get xs j
slice_get-set_other xs k j v ne =
    ⊎_elim
    (λ (h : j < length xs).
    slice_get-get_or (slice_set xs k v) j v (subst (λ n. j < n) (sym (length-set xs k v)) h)
    ∙ ap Some (get_or-set_other xs k j v v ne) ∙ sym (slice_get-get_or xs j v h))
    (λ (h : length xs ≤ j).
    slice_get_past (slice_set xs k v) j (subst (λ n. n ≤ j) (sym (length-set xs k v)) h) ∙ sym (slice_get_past xs j h))
    (cases_lt j (length xs))

-- one element more, where a list of lists sorts the elements by a key
pub sorted_more : {V X : Type 0} (read : V → List X) (key : X → ℕ) (lists : List V) (k : ℕ) (v old : V) (x : X) (xs : List X) (i : ℕ)
    → ((c : ℕ) → option_map_or read (slice_get lists c) [] ≡ filter (λ y. key y == c) (take i xs))
    → i < length xs → slice_index_or xs i x ≡ x → k < length lists → slice_get lists k ≡ Some old → read v ≡ read old ++ x ∷ [] → key x ≡ k
    → (c : ℕ) → option_map_or read (slice_get (slice_set lists k v) c) [] ≡ filter (λ y. key y == c) (take (i + 1) xs)
sorted_more {V} {X} read key lists k v old x xs i sorted within is below at pushed keyed c =
    ⊎_elim same other (cases_eq c k)
  where
    more : filter (λ y. key y == c) (take (i + 1) xs) ≡ filter (λ y. key y == c) (take i xs) ++ filter (λ y. key y == c) (x ∷ [])
    more = ap (filter (λ y. key y == c)) (take_more xs i x within ∙ ap (λ z. take i xs ++ z ∷ []) is) ∙ filter-append (λ y. key y == c) (take i xs) (x ∷ [])

    same : c ≡ k → option_map_or read (slice_get (slice_set lists k v) c) [] ≡ filter (λ y. key y == c) (take (i + 1) xs)
    same e =
        let here : (key x == c) ≡ true = eq-eqb (key x) c (keyed ∙ sym e) in
        ap (λ j. option_map_or read (slice_get (slice_set lists k v) j) []) e
        ∙ ap (λ o. option_map_or read o []) (slice_get-set_same lists k v below)
        ∙ pushed
        ∙ ap (λ o. option_map_or read o [] ++ x ∷ []) (sym at)
        ∙ ap (λ j. option_map_or read (slice_get lists j) [] ++ x ∷ []) (sym e)
        ∙ ap (λ ys. ys ++ x ∷ []) (sorted c)
        ∙ ap (λ b. filter (λ y. key y == c) (take i xs) ++ cond b (x ∷ []) []) (sym here)
        ∙ sym more

    other : c ≢ k → option_map_or read (slice_get (slice_set lists k v) c) [] ≡ filter (λ y. key y == c) (take (i + 1) xs)
    other ne =
        let apart : (key x == c) ≡ false = ne_eqb (key x) c (λ e. ne (sym e ∙ keyed)) in
        ap (λ o. option_map_or read o []) (slice_get-set_other lists k c v ne)
        ∙ sorted c
        ∙ sym (append-nil (filter (λ y. key y == c) (take i xs)))
        ∙ ap (λ b. filter (λ y. key y == c) (take i xs) ++ cond b (x ∷ []) []) (sym apart)
        ∙ sym more
