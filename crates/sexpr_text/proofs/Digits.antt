-- The digits of a numeral.
use Rattle.std.proofs.Common.{◌≡◌, ℕ, zero, suc, ◌+◌, ◌-◌, ◌*◌, ◌^◌, ◌<◌, ◌≤◌, Bool, true, false, ◌&&◌, List, [], ◌∷◌, length, get_or, take, refl, ap, subst, ◌∙◌, arith, lit<, lit≤}
use Rattle.std.specs.Prelude.{nat_lt, nat_le}
use Rattle.std.specs.List.{list_all}
use Rattle.std.specs.Char.{is_ascii_digit, digit_value}
use Rattle.std.specs.Str.Parse.{AllDigits, digits_value}
use Rattle.std.proofs.lemmas.Bool.Decides.{nat_tests}
use Rattle.std.proofs.lemmas.Int.Digits.{digits_value-lt, digits_value_more}
use Rattle.std.proofs.lemmas.Str.Parse.{digits_value-take-le}
use Rattle.std.proofs.lemmas.List.{take_all}
use Rattle.std.proofs.Math.Nat.{pow-le-pow_right}
use Rattle.sexpr_text.specs.Numerals.{is_numeral}
use Rattle.list_laws.proofs.Booleans.{and_first, and_second}

-- a digit
pub record IsDigit (c : ℕ) : Type 0 where
  pub above : 48 ≤ c
  pub below : c ≤ 57
  pub value : digit_value c ≡ c - 48

pub digit : (c : ℕ) → is_ascii_digit c ≡ true → IsDigit c
digit c h =
    let a : 48 ≤ c = grind (arith, nat_tests) in
    let b : c ≤ 57 = grind (arith, nat_tests) in
    let e : nat_lt c 48 ≡ false = grind (arith, nat_tests) in
    let f : nat_lt c 58 ≡ true = grind (arith, nat_tests) in
    record { above = a; below = b; value = rw (e, f) refl }

-- each of them

all_digits : (ds : List ℕ) → list_all is_ascii_digit ds ≡ true → AllDigits 10 ds
all_digits [] h = tt
all_digits (c ∷ cs) h =
    let d = digit c (and_first (is_ascii_digit c) (list_all is_ascii_digit cs) h) in
    (rw d.value (let b : c ≤ 57 = d.below in omega arith), all_digits cs (and_second (is_ascii_digit c) (list_all is_ascii_digit cs) h))

digit_at : (ds : List ℕ) (i : ℕ) → list_all is_ascii_digit ds ≡ true → i < length ds → is_ascii_digit (get_or ds i 0) ≡ true
digit_at [] i h k = absurd (omega arith)
digit_at (c ∷ cs) zero h k = and_first (is_ascii_digit c) (list_all is_ascii_digit cs) h
digit_at (c ∷ cs) (suc i) h k = digit_at cs i (and_second (is_ascii_digit c) (list_all is_ascii_digit cs) h) (omega arith)

-- the number so far, and one digit more
pub record IsNumberSoFar (ds : List ℕ) (i : ℕ) : Type 0 where
  pub next : IsDigit (get_or ds i 0)
  pub more : digits_value 10 (take (i + 1) ds) ≡ digits_value 10 (take i ds) * 10 + (get_or ds i 0 - 48)
  pub small : digits_value 10 (take (i + 1) ds) < 1000000000

pub number_so_far : (ds : List ℕ) (i : ℕ) → is_numeral ds ≡ true → i < length ds → IsNumberSoFar ds i
number_so_far ds i h k =
    let long : (nat_le 1 (length ds) && nat_le (length ds) 9) ≡ true = and_first (nat_le 1 (length ds) && nat_le (length ds) 9) (list_all is_ascii_digit ds) h in
    let le : nat_le (length ds) 9 ≡ true = and_second (nat_le 1 (length ds)) (nat_le (length ds) 9) long in
    let short : length ds ≤ 9 = grind (arith, nat_tests) in
    let all : list_all is_ascii_digit ds ≡ true = and_second (nat_le 1 (length ds) && nat_le (length ds) 9) (list_all is_ascii_digit ds) h in
    let d = digit (get_or ds i 0) (digit_at ds i all k) in
    let e : digits_value 10 (take (i + 1) ds) ≡ digits_value 10 (take i ds) * 10 + digit_value (get_or ds i 0) = digits_value_more 10 ds i k in
    let part : digits_value 10 (take (i + 1) ds) ≤ digits_value 10 ds = digits_value-take-le 10 ds (i + 1) (lit≤ tt) in
    let whole : digits_value 10 ds < 10 ^ length ds = digits_value-lt 10 ds (all_digits ds all) in
    let power : 10 ^ length ds ≤ 10 ^ 9 = pow-le-pow_right (lit< tt) short in
    let most : 10 ^ 9 ≡ 1000000000 = refl in
    record { next = d; more = e ∙ ap (λ v. digits_value 10 (take i ds) * 10 + v) d.value; small = omega arith }

some_digits : (ds : List ℕ) → is_numeral ds ≡ true → 1 ≤ length ds
some_digits [] h = cc
some_digits (d ∷ ds) h = omega arith

-- nine digits write a small number
pub small_number : (ds : List ℕ) → is_numeral ds ≡ true → digits_value 10 ds < 1000000000
small_number ds h =
    let some : 1 ≤ length ds = some_digits ds h in
    let s = number_so_far ds (length ds - 1) h (omega arith) in
    let all : take (length ds - 1 + 1) ds ≡ ds = take_all (length ds - 1 + 1) ds (omega arith) in
    subst (λ xs. digits_value 10 xs < 1000000000) all s.small
