-- Lists of tests, and cubes that agree with them.
use Rattle.std.proofs.Common.{◌≡◌, ℕ, zero, suc, ◌+◌, ◌<◌, ◌≤◌, Bool, true, false, ◌&&◌, cond, eqb, ltb, List, [], ◌∷◌, take, drop, set, length, get_or, map, refl, sym, ◌∙◌, ap, subst, ⊎_elim, arith, bit_and}
use Rattle.std.specs.List.{list_all}
use Rattle.std.proofs.lemmas.Bool.{cases_order, cond-true, cond-false, eq-eqb, ne_eqb, lt-ltb, le-ltb, and_left, and_right}
use Rattle.std.proofs.lemmas.List.{take-append-drop}
use Rattle.std.proofs.lemmas.List.Folds.{list_all-append, list_all_more}
use Rattle.list_laws.proofs.Booleans.{and_yes, and_assoc}
use Rattle.task_core.specs.Cubes.{Cube, matches}
use Rattle.task_core.specs.Vectors.{Vector, value_of, same_value}
use Rattle.task_core.specs.declared.literals.Lit.{Lit}
use Rattle.cube_index.specs.declared.blocks.Test.{Test}
use Rattle.cube_index.specs.Agreement.{agrees, agrees_with_all, has_bit, wanted_at, word_for}
use Rattle.cube_index.proofs.Bits.{and_swap, has_bit_and, wanted_any, wanted_both}

-- one element in place of another, which asks one thing more
pub list_all_set : {X : Type 0} (p : X → Bool) (xs : List X) (i : ℕ) (y d : X) (more : Bool) → i < length xs
    → p y ≡ (p (get_or xs i d) && more) → list_all p (set xs i y) ≡ (list_all p xs && more)
list_all_set p [] i y d more h e = absurd (omega arith)
list_all_set p (x ∷ xs) zero y d more h e = ap (λ b. b && list_all p xs) e ∙ and_swap (p x) more (list_all p xs)
list_all_set p (x ∷ xs) (suc i) y d more h e =
    ap (λ b. p x && b) (list_all_set p xs i y d more (omega arith) e) ∙ sym (and_assoc (p x) (list_all p xs) more)

-- a list whose front fails
pub list_all_front : {X : Type 0} (p : X → Bool) (xs : List X) (i : ℕ) → list_all p (take i xs) ≡ false → list_all p xs ≡ false
list_all_front p xs i e =
    ap (list_all p) (sym (take-append-drop i xs)) ∙ list_all-append p (take i xs) (drop i xs)
    ∙ and_left (list_all p (take i xs)) (list_all p (drop i xs)) e

-- nothing is left of some after a part of the tests, so nothing after all of them
pub none_left : (some part all : Bool) → (some && part) ≡ false → (part ≡ false → all ≡ false) → (some && all) ≡ false
none_left true part all e rest = rest e
none_left false part all e rest = refl

-- a cube's next literal
pub wanted_more : (v : Vector) (place k : ℕ) (cube : Cube) (i : ℕ) (d : Lit) (before now next : Bool) → i < length cube
    → now ≡ (before && wanted_at place k (matches (take i cube) v))
    → next ≡ (now && wanted_at place k (same_value (value_of v (get_or cube i d).fluent.0) (get_or cube i d).positive))
    → next ≡ (before && wanted_at place k (matches (take (i + 1) cube) v))
wanted_more v place k cube i d before now next h e1 e2 =
    let p : Lit → Bool = λ lit. same_value (value_of v lit.fluent.0) lit.positive in
    let front : Bool = list_all p (take i cube) in
    let here : Bool = p (get_or cube i d) in
    let longer : wanted_at place k (list_all p (take (i + 1) cube)) ≡ (wanted_at place k front && wanted_at place k here) =
    ap (wanted_at place k) (list_all_more p cube i d h) ∙ wanted_both place k front here in
    e2 ∙ ap (λ b. b && wanted_at place k here) e1 ∙ and_assoc before (wanted_at place k front) (wanted_at place k here)
    ∙ ap (λ b. before && b) (sym longer)

-- no literal yet
pub wanted_none : (v : Vector) (place k : ℕ) (before : Bool) → before ≡ (before && wanted_at place k (matches [] v))
wanted_none v place k before = sym (and_yes before (wanted_at place k true) (wanted_any place k))

-- the cubes before a place, and the one at it
pub before_more : (k place : ℕ) (here : ℕ → Bool) (at : Bool) → at ≡ here place
    → cond (ltb k (place + 1)) (here k) true ≡ (cond (ltb k place) (here k) true && wanted_at place k at)
before_more k place here at e =
    ⊎_elim
    (λ (same : k ≡ place).
    let up : ltb k (place + 1) ≡ true = lt-ltb k (place + 1) (omega arith) in
    let not_below : ltb k place ≡ false = le-ltb k place (omega arith) in
    cond-true (ltb k (place + 1)) (here k) true up ∙ ap here same ∙ sym e
    ∙ sym (cond-true (eqb k place) at true (eq-eqb k place same))
    ∙ sym (ap (λ b. b && wanted_at place k at) (cond-false (ltb k place) (here k) true not_below)))
    (⊎_elim
    (λ (less : k < place).
    let up : ltb k (place + 1) ≡ true = lt-ltb k (place + 1) (omega arith) in
    let below : ltb k place ≡ true = lt-ltb k place less in
    let ne : k ≡ place → ⊥ = λ q. omega arith in
    cond-true (ltb k (place + 1)) (here k) true up
    ∙ sym (cond-true (ltb k place) (here k) true below)
    ∙ sym (and_yes (cond (ltb k place) (here k) true) (wanted_at place k at) (cond-false (eqb k place) at true (ne_eqb k place ne))))
    (λ (more : place < k).
    let up : ltb k (place + 1) ≡ false = le-ltb k (place + 1) (omega arith) in
    let not_below : ltb k place ≡ false = le-ltb k place (omega arith) in
    let ne : k ≡ place → ⊥ = λ q. omega arith in
    cond-false (ltb k (place + 1)) (here k) true up
    ∙ sym (cond-false (ltb k place) (here k) true not_below)
    ∙ sym (and_yes (cond (ltb k place) (here k) true) (wanted_at place k at) (cond-false (eqb k place) at true (ne_eqb k place ne)))))
    (cases_order k place)

-- one test more
pub one_test_more : (v : Vector) (k : ℕ) (tests : List Test) (i : ℕ) (d : Test) (left word places : ℕ) (value : Bool) → i < length tests
    → has_bit left k ≡ (has_bit places k && agrees_with_all v k (take i tests))
    → word ≡ word_for (get_or tests i d) value
    → value ≡ value_of v (get_or tests i d).fluent.0
    → has_bit (bit_and left word) k ≡ (has_bit places k && agrees_with_all v k (take (i + 1) tests))
one_test_more v k tests i d left word places value h e1 e2 e3 =
    let test : Test = get_or tests i d in
    let here : has_bit word k ≡ agrees v k test = ap (λ n. has_bit n k) e2 ∙ ap (λ b. has_bit (word_for test b) k) e3 in
    let front : Bool = agrees_with_all v k (take i tests) in
    has_bit_and left word k ∙ ap (λ b. b && has_bit word k) e1 ∙ ap (λ b. (has_bit places k && front) && b) here
    ∙ and_assoc (has_bit places k) front (agrees v k test)
    ∙ ap (λ b. has_bit places k && b) (sym (list_all_more (agrees v k) tests i d h))
