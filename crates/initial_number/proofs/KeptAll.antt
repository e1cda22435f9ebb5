-- Vectors of which no two are equal are all kept, each in its place; and where as many are kept as
-- there are, no two are equal.
use Rattle.std.proofs.Common.{◌≡◌, ◌≢◌, ◌+◌, ◌≤◌, true, false, List, [], ◌∷◌, ◌++◌, length, get_or, sym, ◌∙◌, ap, subst, ⊎_elim, arith, append_assoc, append-nil}
use Rattle.std.specs.List.{AllPairs, fold, list_any}
use Rattle.std.proofs.Math.Seq.{get_or-append_seam}
use Rattle.std.proofs.lemmas.Bool.{cases_Bool, cond-false, cond-true}
use Rattle.std.proofs.lemmas.List.{get_or_append_left, length-append}
use Rattle.std.proofs.lemmas.List.Folds.{list_any_none}
use Rattle.task_core.specs.Initial.{add_state}
use Rattle.task_core.specs.Vectors.{Vector, same_vector}
use Rattle.task_core.proofs.Vectors.{same_vector_equal}

-- a vector that isn't listed stands behind the list
listed_behind : (before : List Vector) (x : Vector) → list_any (same_vector x) before ≡ false → add_state before x ≡ before ++ x ∷ []
listed_behind before x new = cond-false (list_any (same_vector x) before) before (before ++ x ∷ []) new

differ_not_same : (x y : Vector) → (x ≡ y → ⊥) → same_vector x y ≡ false
differ_not_same x y ne =
    ⊎_elim (λ (e : same_vector x y ≡ true). absurd (ne (same_vector_equal x y e))) (λ (e : same_vector x y ≡ false). e)
    (cases_Bool (same_vector x y))

pub kept_all : (xs before : List Vector) → AllPairs (λ v w. v ≢ w) (before ++ xs) → fold add_state before xs ≡ before ++ xs
kept_all [] before differ = sym (append-nil before)
kept_all (x ∷ xs) before differ =
    let long : length (before ++ x ∷ xs) ≡ length before + length (x ∷ xs) = length-append before (x ∷ xs) in
    let new : list_any (same_vector x) before ≡ false =
    list_any_none (same_vector x) before (λ k d h.
    differ_not_same x (get_or before k d) (λ e.
    differ k (length before) d h (omega (arith, long))
    (get_or_append_left before (x ∷ xs) d k h ∙ sym e ∙ sym (get_or-append_seam before x xs d)))) in
    let regrouped : (before ++ x ∷ []) ++ xs ≡ before ++ x ∷ xs = append_assoc before (x ∷ []) xs in
    ap (λ vs. fold add_state vs xs) (listed_behind before x new)
    ∙ kept_all xs (before ++ x ∷ []) (subst (AllPairs (λ v w. v ≢ w)) (sym regrouped) differ)
    ∙ regrouped

-- at most as many are kept as there are
kept_most : (xs before : List Vector) → length (fold add_state before xs) ≤ length before + length xs
kept_most [] before = omega arith
kept_most (x ∷ xs) before =
    ⊎_elim
    (λ (listed : list_any (same_vector x) before ≡ true).
    let rest : length (fold add_state before xs) ≤ length before + length xs = kept_most xs before in
    subst (λ vs. length (fold add_state vs xs) ≤ length before + length (x ∷ xs)) (sym (cond-true (list_any (same_vector x) before) before (before ++ x ∷ []) listed)) (omega (arith, rest)))
    (λ (new : list_any (same_vector x) before ≡ false).
    let rest : length (fold add_state (before ++ x ∷ []) xs) ≤ length (before ++ x ∷ []) + length xs = kept_most xs (before ++ x ∷ []) in
    let long = length-append before (x ∷ []) in
    subst (λ vs. length (fold add_state vs xs) ≤ length before + length (x ∷ xs)) (sym (listed_behind before x new)) (omega (arith, rest, long)))
    (cases_Bool (list_any (same_vector x) before))

pub kept_as_many : (xs before : List Vector) → length (fold add_state before xs) ≡ length before + length xs → fold add_state before xs ≡ before ++ xs
kept_as_many [] before many = sym (append-nil before)
kept_as_many (x ∷ xs) before many =
    ⊎_elim
    (λ (listed : list_any (same_vector x) before ≡ true).
    let rest : length (fold add_state before xs) ≤ length before + length xs = kept_most xs before in
    let same : length (fold add_state (add_state before x) xs) ≡ length (fold add_state before xs) =
    ap (λ vs. length (fold add_state vs xs)) (cond-true (list_any (same_vector x) before) before (before ++ x ∷ []) listed) in
    absurd (omega (arith, rest, same, many)))
    (λ (new : list_any (same_vector x) before ≡ false).
    let behind = listed_behind before x new in
    let same : length (fold add_state (add_state before x) xs) ≡ length (fold add_state (before ++ x ∷ []) xs) =
    ap (λ vs. length (fold add_state vs xs)) behind in
    let long = length-append before (x ∷ []) in
    ap (λ vs. fold add_state vs xs) behind
    ∙ kept_as_many xs (before ++ x ∷ []) (omega (arith, same, many, long))
    ∙ append_assoc before (x ∷ []) xs)
    (cases_Bool (list_any (same_vector x) before))
