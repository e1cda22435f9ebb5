-- Lines that are put in one after another, and lines that are compared with one more.
use Rattle.std.proofs.Common.{◌≡◌, ℕ, zero, suc, ◌+◌, ◌<◌, Bool, ◌||◌, List, [], ◌∷◌, ◌++◌, map, length, get_or, drop, take, refl, ap, sym, ◌∙◌, append_assoc, arith}
use Rattle.std.proofs.lemmas.List.{append-nil}
use Rattle.std.proofs.lemmas.List.Sums.{fold-append}
use Rattle.std.specs.List.{flat_map, list_any}
use Rattle.std.specs.Str.{bytes_eq}
use Rattle.indexmap.specs.IndexSet.{insert_all, insert_key}

flat_more : {X Y : Type 0} (lines_of : Y → List (List ℕ)) (f : X → Y) (xs : List X) (i : ℕ) (d : X) → i < length xs
    → flat_map lines_of (map f (take (suc i) xs)) ≡ flat_map lines_of (map f (take i xs)) ++ lines_of (f (get_or xs i d))
flat_more lines_of f [] i d l = absurd (omega arith)
flat_more lines_of f (x ∷ xs) zero d l = append-nil (lines_of (f x))
flat_more lines_of f (x ∷ xs) (suc i) d l =
    ap (λ lines. lines_of (f x) ++ lines) (flat_more lines_of f xs i d (omega arith))
    ∙ sym (append_assoc (lines_of (f x)) (flat_map lines_of (map f (take i xs))) (lines_of (f (get_or xs i d))))

-- those of one element more
pub inserted_more : {X Y : Type 0} (lines_of : Y → List (List ℕ)) (f : X → Y) (start : List (List ℕ)) (xs : List X) (i : ℕ) (d : X) → i < length xs
    → insert_all bytes_eq start (flat_map lines_of (map f (take (i + 1) xs)))
    ≡ insert_all bytes_eq (insert_all bytes_eq start (flat_map lines_of (map f (take i xs)))) (lines_of (f (get_or xs i d)))
inserted_more lines_of f start xs i d l =
    let next : i + 1 ≡ suc i = omega arith in
    ap (λ n. insert_all bytes_eq start (flat_map lines_of (map f (take n xs)))) next
    ∙ ap (λ lines. insert_all bytes_eq start lines) (flat_more lines_of f xs i d l)
    ∙ fold-append (insert_key bytes_eq) start (flat_map lines_of (map f (take i xs))) (lines_of (f (get_or xs i d)))

-- a line, and then others
pub inserted_two : (start first second : List (List ℕ)) → insert_all bytes_eq start (first ++ second) ≡ insert_all bytes_eq (insert_all bytes_eq start first) second
inserted_two start first second = fold-append (insert_key bytes_eq) start first second

any_from : {X : Type 0} (test : List ℕ → Bool) (f : X → List ℕ) (xs : List X) (i : ℕ) (d : X) → i < length xs
    → list_any test (map f (drop i xs)) ≡ (test (f (get_or xs i d)) || list_any test (map f (drop (suc i) xs)))
any_from test f [] i d l = absurd (omega arith)
any_from test f (x ∷ xs) zero d l = refl
any_from test f (x ∷ xs) (suc i) d l = any_from test f xs i d (omega arith)

-- whether a line is among those from here on, one further
pub any_further : {X : Type 0} (test : List ℕ → Bool) (f : X → List ℕ) (xs : List X) (i : ℕ) (d : X) → i < length xs
    → list_any test (map f (drop i xs)) ≡ (test (f (get_or xs i d)) || list_any test (map f (drop (i + 1) xs)))
any_further test f xs i d l =
    let next : suc i ≡ i + 1 = omega arith in
    any_from test f xs i d l ∙ ap (λ n. test (f (get_or xs i d)) || list_any test (map f (drop n xs))) next
