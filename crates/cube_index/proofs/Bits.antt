-- Bits of words.
use Rattle.std.proofs.Common.{◌≡◌, ℕ, zero, suc, ◌-◌, ◌*◌, ◌/◌, ◌%◌, ◌^◌, ◌<◌, ◌≤◌, ◌+◌, Bool, true, false, ◌&&◌, cond, eqb, ltb, leb, min, refl, sym, ◌∙◌, ap, subst, ⊎_elim, arith, w64, bit_and}
use Rattle.std.specs.Int.{bit_at}
use Rattle.std.proofs.lemmas.Nat.Bits.{bit_at_and, bit_at-lt, bit_at-zero, bit_at_ones, bit_at_ones_above, bit_at_clear_same, bit_at_clear_other, ones_shl, ones_shr, bit_at_mask_inside, bit_at_mask_below}
use Rattle.std.proofs.lemmas.Bool.{cases_eq, cases_lt, cond-true, cond-false, eq-eqb, ne_eqb, and_left, and_right, lt-ltb, le-ltb, le-leb, lt-leb}
use Rattle.task_core.specs.Vectors.{same_value}
use Rattle.cube_index.specs.Agreement.{has_bit, wanted_at}
use Rattle.list_laws.proofs.Booleans.{and_yes}
use Rattle.list_laws.proofs.Numbers.{least_bit}

-- the parts of "and" in another order
pub and_swap : (x y z : Bool) → ((x && y) && z) ≡ ((x && z) && y)
and_swap true true true = refl
and_swap true true false = refl
and_swap true false true = refl
and_swap true false false = refl
and_swap false y z = refl

-- what is wanted of the cube at a place
pub wanted_here : (place k : ℕ) (test : Bool) → k ≡ place → wanted_at place k test ≡ test
wanted_here place k test e = cond-true (eqb k place) test true (eq-eqb k place e)

pub wanted_elsewhere : (place k : ℕ) (test : Bool) → (k ≡ place → ⊥) → wanted_at place k test ≡ true
wanted_elsewhere place k test ne = cond-false (eqb k place) test true (ne_eqb k place ne)

either : (b : Bool) → cond b true true ≡ true
either true = refl
either false = refl

pub wanted_any : (place k : ℕ) → wanted_at place k true ≡ true
wanted_any place k = either (eqb k place)

both_if : (b x y : Bool) → cond b (x && y) true ≡ (cond b x true && cond b y true)
both_if true x y = refl
both_if false x y = refl

pub wanted_both : (place k : ℕ) (x y : Bool) → wanted_at place k (x && y) ≡ (wanted_at place k x && wanted_at place k y)
wanted_both place k x y = both_if (eqb k place) x y

-- bits of words

pub has_bit_and : (a b k : ℕ) → has_bit (bit_and a b) k ≡ (has_bit a k && has_bit b k)
has_bit_and a b k =
    ap (λ n. eqb n 1) (bit_at_and a b k) ∙ least_bit (bit_at a k) (bit_at b k) (bit_at-lt a k) (bit_at-lt b k)

pub has_bit_none : (k : ℕ) → has_bit 0 k ≡ false
has_bit_none k = ap (λ n. eqb n 1) (bit_at-zero k)

pub has_bit_max : (k : ℕ) → k < 64 → has_bit 18446744073709551615 k ≡ true
has_bit_max k h = ap (λ n. eqb n 1) (bit_at_ones 64 k h)

-- a word without the bit at a place
abbrev pub cleared : ℕ → ℕ → ℕ
cleared word place = bit_and word (18446744073709551615 - 1 * 2 ^ place % 18446744073709551616)

pub has_bit_cleared : (word place k : ℕ) → place < 64 → k < 64 → has_bit (cleared word place) k ≡ (has_bit word k && wanted_at place k false)
has_bit_cleared word place k hp hk =
    ⊎_elim
    (λ (e : k ≡ place).
    let bit : bit_at (cleared word place) k ≡ 0 = subst (λ i. bit_at (cleared word place) i ≡ 0) (sym e) (bit_at_clear_same w64 word place hp) in
    ap (λ n. eqb n 1) bit ∙ sym (and_right (has_bit word k) (wanted_at place k false) (wanted_here place k false e)))
    (λ (ne : k ≡ place → ⊥).
    ap (λ n. eqb n 1) (bit_at_clear_other w64 word place hp k hk ne)
    ∙ sym (and_yes (has_bit word k) (wanted_at place k false) (wanted_elsewhere place k false ne)))
    (cases_eq k place)

-- the words of a test of which the cube at a place wants the fluent true, and false
pub wants_true : (value : Bool) (if_true if_false place k : ℕ) → place < 64 → k < 64
    → has_bit (cond value if_true (cleared if_false place)) k ≡ (has_bit (cond value if_true if_false) k && wanted_at place k (same_value value true))
wants_true true t f place k hp hk = sym (and_yes (has_bit t k) (wanted_at place k true) (wanted_any place k))
wants_true false t f place k hp hk = has_bit_cleared f place k hp hk

pub wants_false : (value : Bool) (if_true if_false place k : ℕ) → place < 64 → k < 64
    → has_bit (cond value (cleared if_true place) if_false) k ≡ (has_bit (cond value if_true if_false) k && wanted_at place k (same_value value false))
wants_false true t f place k hp hk = has_bit_cleared t place k hp hk
wants_false false t f place k hp hk = sym (and_yes (has_bit f k) (wanted_at place k true) (wanted_any place k))

-- the word of all ones, moved up and down
has_bit_from : (from k : ℕ) → from ≤ 64 → k < 64 → has_bit (18446744073709551615 * 2 ^ from % 18446744073709551616) k ≡ leb from k
has_bit_from from k h hk =
    let word : 18446744073709551615 * 2 ^ from % 18446744073709551616 ≡ 2 ^ 64 - 2 ^ from = ones_shl 64 from h in
    ap (λ n. has_bit n k) word
    ∙ ⊎_elim
    (λ (lt : k < from). ap (λ n. eqb n 1) (bit_at_mask_below from 64 k lt) ∙ sym (lt-leb from k lt))
    (λ (ge : from ≤ k). ap (λ n. eqb n 1) (bit_at_mask_inside from 64 k ge hk) ∙ sym (le-leb from k ge))
    (cases_lt k from)

has_bit_to : (to k : ℕ) → to ≤ 64 → has_bit (18446744073709551615 / 2 ^ (64 - to)) k ≡ ltb k to
has_bit_to to k h =
    let within : 64 - to ≤ 64 = omega arith in
    let back : 64 - (64 - to) ≡ to = omega arith in
    let word : 18446744073709551615 / 2 ^ (64 - to) ≡ 2 ^ to - 1 = ones_shr 64 (64 - to) within ∙ ap (λ n. 2 ^ n - 1) back in
    ap (λ n. has_bit n k) word
    ∙ ⊎_elim
    (λ (lt : k < to). ap (λ n. eqb n 1) (bit_at_ones to k lt) ∙ sym (lt-ltb k to lt))
    (λ (ge : to ≤ k). ap (λ n. eqb n 1) (bit_at_ones_above to k ge) ∙ sym (le-ltb k to ge))
    (cases_lt k to)

-- the word with the bits of a part
pub has_bit_between : (from to k : ℕ) → from ≤ 64 → to ≤ 64 → k < 64
    → has_bit (bit_and (18446744073709551615 * 2 ^ from % 18446744073709551616) (18446744073709551615 / 2 ^ (64 - to))) k ≡ (leb from k && ltb k to)
has_bit_between from to k hf ht hk =
    let low : has_bit (18446744073709551615 * 2 ^ from % 18446744073709551616) k ≡ leb from k = has_bit_from from k hf hk in
    let high : has_bit (18446744073709551615 / 2 ^ (64 - to)) k ≡ ltb k to = has_bit_to to k ht in
    has_bit_and (18446744073709551615 * 2 ^ from % 18446744073709551616) (18446744073709551615 / 2 ^ (64 - to)) k
    ∙ ap (λ b. b && has_bit (18446744073709551615 / 2 ^ (64 - to)) k) low
    ∙ ap (λ b. leb from k && b) high

-- all ones either way
pub max_either_way : (value : Bool) (k : ℕ) → k < 64 → has_bit (cond value 18446744073709551615 18446744073709551615) k ≡ true
max_either_way true k h = has_bit_max k h
max_either_way false k h = has_bit_max k h
