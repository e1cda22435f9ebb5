-- One step of a loop over a list, where what is made so far and what the rest gives are the whole.
use Rattle.std.proofs.Common.{add-one, suc, ◌≡◌, ℕ, ◌+◌, ◌<◌, ◌≤◌, List, [], ◌∷◌, ◌++◌, map, length, get_or, drop, ap, sym, ◌∙◌}
use Rattle.std.specs.List.{flat_map}
use Rattle.std.proofs.lemmas.List.{append_assoc, append-nil, at_drop_more, at_drop_all, map-append}

pub map_step : {X Y : Type 0} (F : X → Y) (xs : List X) (i : ℕ) (d : X) (done all : List Y) → i < length xs → done ++ map F (drop i xs) ≡ all
    → (done ++ F (get_or xs i d) ∷ []) ++ map F (drop (i + 1) xs) ≡ all
map_step F xs i d done all within so_far =
    append_assoc done (F (get_or xs i d) ∷ []) (map F (drop (i + 1) xs))
    ∙ ap (λ l. done ++ l) (sym (at_drop_more (map F) xs i d within))
    ∙ so_far

pub map_end : {X Y : Type 0} (F : X → Y) (xs : List X) (i : ℕ) (done all : List Y) → length xs ≤ i → done ++ map F (drop i xs) ≡ all → done ≡ all
map_end F xs i done all past so_far = sym (append-nil done) ∙ ap (λ l. done ++ l) (sym (at_drop_all (map F) xs i past)) ∙ so_far

-- the same where each element of what is made is read by a function
pub map_push_step : {X Y Z : Type 0} (read : Z → Y) (F : X → Y) (xs : List X) (i : ℕ) (d : X) (made : List Z) (new : Z) (all : List Y) → i < length xs
    → read new ≡ F (get_or xs i d) → map read made ++ map F (drop i xs) ≡ all
    → map read (made ++ new ∷ []) ++ map F (drop (i + 1) xs) ≡ all
map_push_step read F xs i d made new all within is so_far =
    ap (λ l. l ++ map F (drop (i + 1) xs)) (map-append read made (new ∷ []) ∙ ap (λ y. map read made ++ y ∷ []) is)
    ∙ map_step F xs i d (map read made) all within so_far

pub flat_map_step : {X Y : Type 0} (F : X → List Y) (xs : List X) (i : ℕ) (d : X) (done all : List Y) → i < length xs → done ++ flat_map F (drop i xs) ≡ all
    → (done ++ F (get_or xs i d)) ++ flat_map F (drop (i + 1) xs) ≡ all
flat_map_step F xs i d done all within so_far =
    append_assoc done (F (get_or xs i d)) (flat_map F (drop (i + 1) xs))
    ∙ ap (λ l. done ++ l) (sym (at_drop_more (flat_map F) xs i d within))
    ∙ so_far

pub flat_map_end : {X Y : Type 0} (F : X → List Y) (xs : List X) (i : ℕ) (done all : List Y) → length xs ≤ i → done ++ flat_map F (drop i xs) ≡ all → done ≡ all
flat_map_end F xs i done all past so_far = sym (append-nil done) ∙ ap (λ l. done ++ l) (sym (at_drop_all (flat_map F) xs i past)) ∙ so_far

pub map_turn : {X Y Z : Type 0} (read : Z → Y) (F : X → Y) (xs : List X) (i : ℕ) (x : X) (made : List Z) (new : Z) (all : List Y) → drop i xs ≡ x ∷ drop (suc i) xs
    → read new ≡ F x → map read made ++ map F (drop i xs) ≡ all
    → map read (made ++ new ∷ []) ++ map F (drop (i + 1) xs) ≡ all
map_turn read F xs i x made new all here is so_far =
    ap (λ n. map read (made ++ new ∷ []) ++ map F (drop n xs)) (add-one i)
    ∙ ap (λ l. l ++ map F (drop (suc i) xs)) (map-append read made (new ∷ []) ∙ ap (λ y. map read made ++ y ∷ []) is)
    ∙ append_assoc (map read made) (F x ∷ []) (map F (drop (suc i) xs))
    ∙ ap (λ l. map read made ++ map F l) (sym here)
    ∙ so_far
