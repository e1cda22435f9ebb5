-- The rows of a table are read from its lines.
use Rattle.std.proofs.Common.{◌≡◌, ◌<◌, ◌≤◌, ◌^◌, ◌+◌, ◌-◌, ◌*◌, ◌==◌, ℕ, Bool, true, false, List, [], ◌∷◌, ◌++◌, map, refl, sym, ◌∙◌, ap, append_assoc, append-nil, arith, rules}
use Rattle.std.specs.Prelude.{decimal, if◌then◌else◌, nat_le}
use Rattle.std.specs.Char.{is_ascii_digit}
use Rattle.std.specs.List.{AllByRecursion, flat_map}
use Rattle.std.specs.Str.Parse.{AllDigits, digits_value}
use Rattle.std.proofs.lemmas.Bool.Decides.{nat_tests}
use Rattle.std.proofs.lemmas.Fmt.{decimal_is_IsNumeral}
use Rattle.std.proofs.lemmas.Str.Parse.{IsNumeralModel, numerals_by_fold, tells_digits, digit_at}
use Rattle.controller_code.specs.Tables.{counted, number_text, row_line, rows_after, rows_in}

-- a digit is read
digit_test : (c : ℕ) → 48 ≤ c → c ≤ 57 → is_ascii_digit c ≡ true
digit_test c low high = grind (arith, nat_tests)

no_comma : (c : ℕ) → 48 ≤ c → (c == 44) ≡ false
no_comma c low = grind (arith, nat_tests)

no_line : (c : ℕ) → 48 ≤ c → (c == 10) ≡ false
no_line c low = grind (arith, nat_tests)

digit_read : (row : List ℕ) (n c : ℕ) (rest : List ℕ) → 48 ≤ c → c ≤ 57 → rows_after row n (c ∷ rest) ≡ rows_after row (n * 10 + (c - 48)) rest
digit_read row n c rest low high =
    ap (λ b. if b then rows_after (row ++ n ∷ []) 0 rest else if c == 10 then row ∷ rows_after [] 0 rest else if is_ascii_digit c then rows_after row (n * 10 + (c - 48)) rest else rows_after row n rest) (no_comma c low)
    ∙ ap (λ b. if b then row ∷ rows_after [] 0 rest else if is_ascii_digit c then rows_after row (n * 10 + (c - 48)) rest else rows_after row n rest) (no_line c low)
    ∙ ap (λ b. if b then rows_after row (n * 10 + (c - 48)) rest else rows_after row n rest) (digit_test c low high)

-- the number of digits, after those of a number
abbrev read_on : ℕ → List ℕ → ℕ
read_on n [] = n
read_on n (c ∷ cs) = read_on (n * 10 + (c - 48)) cs

own : IsNumeralModel (AllDigits 10) (read_on 0)
own = numerals_by_fold _ tells_digits read_on (search rules)

digits_read : (row : List ℕ) (n : ℕ) (ds rest : List ℕ) → AllDigits 10 ds → rows_after row n (ds ++ rest) ≡ rows_after row (read_on n ds) rest
digits_read row n [] rest all = refl
digits_read row n (c ∷ cs) rest all =
    let at = digit_at (c ∷ cs) 0 all (omega arith) in
    digit_read row n c (cs ++ rest) at.0 at.1 ∙ digits_read row (n * 10 + (c - 48)) cs rest all.1

number_read : (row : List ℕ) (n : ℕ) (rest : List ℕ) → n < 2 ^ 64 → rows_after row 0 (number_text n ++ rest) ≡ rows_after (row ++ n ∷ []) 0 rest
number_read row n rest small =
    let is = decimal_is_IsNumeral n small in
    let value : read_on 0 (decimal n) ≡ n = own.same (decimal n) is.0.1 ∙ is.1 in
    ap (rows_after row 0) (append_assoc (decimal n) (44 ∷ []) rest)
    ∙ digits_read row 0 (decimal n) (44 ∷ rest) is.0.1
    ∙ ap (λ k. rows_after row k (44 ∷ rest)) value

numbers_read : (row ns rest : List ℕ) → AllByRecursion (λ n. n < 2 ^ 64) ns → rows_after row 0 (flat_map number_text ns ++ rest) ≡ rows_after (row ++ ns) 0 rest
numbers_read row [] rest small = ap (λ xs. rows_after xs 0 rest) (sym (append-nil row))
numbers_read row (n ∷ ns) rest small =
    ap (rows_after row 0) (append_assoc (number_text n) (flat_map number_text ns) rest)
    ∙ number_read row n (flat_map number_text ns ++ rest) small.0
    ∙ numbers_read (row ++ n ∷ []) ns rest small.1
    ∙ ap (λ xs. rows_after xs 0 rest) (append_assoc row (n ∷ []) ns)

line_read : (ns rest : List ℕ) → AllByRecursion (λ n. n < 2 ^ 64) ns → rows_after [] 0 (row_line ns ++ rest) ≡ ns ∷ rows_after [] 0 rest
line_read ns rest small =
    ap (rows_after [] 0) (append_assoc (flat_map number_text ns) (10 ∷ []) rest) ∙ numbers_read [] ns (10 ∷ rest) small

pub lines_read : (rows : List (List ℕ)) → AllByRecursion (AllByRecursion (λ n. n < 2 ^ 64)) rows → rows_in (flat_map row_line rows) ≡ rows
lines_read [] small = refl
lines_read (ns ∷ rows) small = line_read ns (flat_map row_line rows) small.0 ∙ ap (λ rs. ns ∷ rs) (lines_read rows small.1)
