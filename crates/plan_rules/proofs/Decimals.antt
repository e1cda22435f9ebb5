-- Numbers as they are printed and read.
use Rattle.std.proofs.Common.{◌≡◌, ◌≢◌, ℕ, ◌<◌, ◌≤◌, ◌^◌, Bool, true, ◌&&◌, List, [], ◌∷◌, length, get_or, refl, ap, subst, ◌∙◌, arith, lit<}
use Rattle.std.specs.Prelude.{Some, None, decimal, nat_le, if◌then◌else◌}
use Rattle.std.specs.Option.{option_and_then}
use Rattle.std.specs.List.{list_all}
use Rattle.std.specs.Char.{is_ascii_digit}
use Rattle.std.specs.Str.Parse.{AllDigits, digits_value}
use Rattle.std.proofs.lemmas.Bool.Decides.{nat_tests}
use Rattle.std.proofs.lemmas.Fmt.{decimal_is_IsNumeral, length-decimal-le}
use Rattle.std.proofs.lemmas.List.{get_or_default}
use Rattle.std.proofs.lemmas.Str.Parse.{digit_at}
use Rattle.sexpr_text.specs.Formed.{is_lower_word_byte}
use Rattle.sexpr_text.specs.Numerals.{is_numeral, numeral}
use Rattle.task_core.specs.Names.{IsWord}
use Rattle.plan_rules.specs.Items.{only_if}
use Rattle.plan_rules.specs.Plans.{IsContextOf, most_contexts}
use Rattle.plan_rules.specs.Readings.{number_within}

digits-test : (ds : List ℕ) → AllDigits 10 ds → list_all is_ascii_digit ds ≡ true
digits-test [] all = refl
digits-test (c ∷ cs) all =
    let low : 48 ≤ c = (digit_at (c ∷ cs) 0 all (omega arith)).0 in
    let high : c ≤ 57 = (digit_at (c ∷ cs) 0 all (omega arith)).1 in
    let first : is_ascii_digit c ≡ true = grind (arith, nat_tests) in
    ap (λ b. b && list_all is_ascii_digit cs) first ∙ digits-test cs all.1

numeral-is : (text : List ℕ) (n : ℕ) → is_numeral text ≡ true → digits_value 10 text ≡ n → numeral text ≡ Some n
numeral-is text n h e = ap (λ b. if b then Some (digits_value 10 text) else None) h ∙ ap Some e

three : (a b c : Bool) → a ≡ true → b ≡ true → c ≡ true → (a && b && c) ≡ true
three a b c e f g = ap (λ v. v && b && c) e ∙ (ap (λ v. v && c) f ∙ g)

pub numeral-decimal : (n : ℕ) → n ≤ most_contexts → numeral (decimal n) ≡ Some n
numeral-decimal n small =
    let wide : 1000000 < 2 ^ 64 = lit< tt in
    let ten : 10 ^ 9 ≡ 1000000000 = refl in
    let is = decimal_is_IsNumeral n (omega arith) in
    let long : 0 < length (decimal n) = is.0.0 in
    let short : length (decimal n) ≤ 9 = length-decimal-le 9 n (lit< tt) (omega arith) (omega arith) in
    numeral-is (decimal n) n
    (three (nat_le 1 (length (decimal n))) (nat_le (length (decimal n)) 9) (list_all is_ascii_digit (decimal n))
    (grind (arith, nat_tests)) (grind (arith, nat_tests)) (digits-test (decimal n) is.0.1))
    is.1

within : (most n : ℕ) → IsContextOf most n → only_if (nat_le 1 n && nat_le n most) n ≡ Some n
within most n is =
    let low : 1 ≤ n = is.first in
    let high : n ≤ most = is.last in
    let e : nat_le 1 n ≡ true = grind (arith, nat_tests) in
    let f : nat_le n most ≡ true = grind (arith, nat_tests) in
    ap (λ b. only_if (b && nat_le n most) n) e ∙ ap (λ b. only_if b n) f

pub number-decimal : (most n : ℕ) → most ≤ most_contexts → IsContextOf most n → number_within most (decimal n) ≡ Some n
number-decimal most n small is =
    let high : n ≤ most = is.last in
    ap (λ o. option_and_then (λ m. only_if (nat_le 1 m && nat_le m most) m) o) (numeral-decimal n (omega arith)) ∙ within most n is

digit-byte : (c : ℕ) → 48 ≤ c → c ≤ 57 → is_lower_word_byte c ≡ true
digit-byte c low high = grind (arith, nat_tests)

some-byte : (ds : List ℕ) → 0 < length ds → ds ≢ []
some-byte [] h = absurd (omega arith)
some-byte (d ∷ ds) h = λ e. cc

pub decimal-word : (n : ℕ) → n ≤ most_contexts → IsWord (decimal n)
decimal-word n small =
    let wide : 1000000 < 2 ^ 64 = lit< tt in
    let is = decimal_is_IsNumeral n (omega arith) in
    record {
      some = some-byte (decimal n) is.0.0;
      bytes = λ i d inside.
          let at = digit_at (decimal n) i is.0.1 inside in
          subst (λ c. is_lower_word_byte c ≡ true) (get_or_default (decimal n) i 0 d inside)
          (digit-byte (get_or (decimal n) i 0) at.0 at.1);
    }
