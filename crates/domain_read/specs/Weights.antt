-- Weights of outcomes, as exact fractions.
use Rattle.std.specs.Prelude.{ℕ, zero, suc, ◌+◌, ◌*◌, ◌/◌, ◌%◌, ◌^◌, ◌==◌, nat_lt, ◌<◌, ◌≤◌, Bool, true, false}
use Rattle.std.specs.Prelude.{◌&&◌, if◌then◌else◌, List, [], ◌∷◌, length, take, drop, Option}
use Rattle.std.specs.Prelude.{Some, None}
use Rattle.std.specs.List.{position}
use Rattle.std.specs.Option.{option_map, option_and_then}
use Rattle.sexpr_text.specs.declared.parts.View.{View}
use Rattle.sexpr_text.specs.declared.parts.View.TheVariants.{Word, Group}
use Rattle.sexpr_text.specs.Forest.{Forest, nothing, word, group}
use Rattle.sexpr_text.specs.Numerals.{numeral}
use Rattle.domain_read.specs.declared.weights.Fraction.{Fraction}
use Rattle.domain_read.specs.declared.weights.Mass.{Mass}
use Rattle.domain_read.specs.declared.weights.Mass.TheVariants.{Missing, Whole, Over}

-- a text cut at the first byte of this value: what stands before it, and after it
abbrev pub cut_at : ℕ → List ℕ → Option (List ℕ × List ℕ)
cut_at c text = option_map (λ i. (take i text, drop (i + 1) text)) (position (λ x. x == c) text)

-- `12`
abbrev pub whole : List ℕ → Option Fraction
whole text = option_map (λ n. record { over = n; under = 1 }) (numeral text)

-- `12.50`: the power of ten of its decimals, as many as there are written, stands under the line
abbrev pub decimal : List ℕ × List ℕ → Option Fraction
decimal p =
    option_and_then (λ n. option_map (λ m.
    record { over = n * 10 ^ length p.1 + m; under = 10 ^ length p.1 }) (numeral p.1))
    (numeral p.0)

-- `1/3`, with the second number not zero
abbrev pub ratio : List ℕ × List ℕ → Option Fraction
ratio p =
    option_and_then (λ n. option_and_then (λ m.
    if m == 0 then None else Some (record { over = n; under = m })) (numeral p.1))
    (numeral p.0)

-- the weight that a word writes: a numeral, a decimal number, or a ratio, each of numerals of one to
-- nine digits. 46 is `.`, and 47 is `/`
abbrev pub or_ratio : Option (List ℕ × List ℕ) → List ℕ → Option Fraction
or_ratio None text = whole text
or_ratio (Some p) text = ratio p

abbrev pub or_decimal : Option (List ℕ × List ℕ) → List ℕ → Option Fraction
or_decimal None text = or_ratio (cut_at 47 text) text
or_decimal (Some p) text = decimal p

unfoldable pub weight : List ℕ → Option Fraction
weight text = or_decimal (cut_at 46 text) text

-- whether a word weighs nothing: it is a weight, and that is 0
abbrev pub is_none_or_zero : Option Fraction → Bool
is_none_or_zero None = false
is_none_or_zero (Some f) = f.over == 0

abbrev pub weighs_nothing : List ℕ → Bool
weighs_nothing text = is_none_or_zero (weight text)

-- the greatest number up to n that passes the test, or 0
abbrev pub greatest : (ℕ → Bool) → ℕ → ℕ
greatest p zero = 0
greatest p (suc n) = if p (suc n) then suc n else greatest p n

-- the greatest common divisor of two numbers above 0
unfoldable pub gcd : ℕ → ℕ → ℕ
gcd a b = greatest (λ d. a % d == 0 && b % d == 0) a

-- their least common multiple
abbrev pub lcm : ℕ → ℕ → ℕ
lcm a b = a / gcd a b * b

-- the greatest common denominator that weights may have, 10 ^ 18
abbrev pub most_under : ℕ
most_under = 1000000000000000000

-- the least common multiple of the denominators so far, with one weight more. There is none where
-- the word is no weight, or where it would be too great
abbrev pub common_with : ℕ → Option Fraction → Option ℕ
common_with m None = None
common_with m (Some f) = if nat_lt most_under (lcm m f.under) then None else Some (lcm m f.under)

-- the weights of `WEIGHT EFFECT WEIGHT EFFECT ..`, or of `EFFECT WEIGHT EFFECT ..` where no weight
-- comes first; `None` stands for what is none
abbrev pub weights_of : Bool → Forest → List (Option Fraction)
weights_of first nothing = []
weights_of first (word span text rest) =
    if first then weight text ∷ weights_of false rest else weights_of true rest
weights_of first (group span parts rest) =
    if first then None ∷ weights_of false rest else weights_of true rest

-- the least common multiple of m and all denominators
abbrev pub common_of : ℕ → List (Option Fraction) → Option ℕ
common_of m [] = Some m
common_of m (f ∷ fs) = option_and_then (λ n. common_of n fs) (common_with m f)

-- how many of the m-th parts of 1 a weight is, where m is a multiple of its denominator
abbrev pub shares : ℕ → Option Fraction → ℕ
shares m None = 0
shares m (Some f) = f.over * (m / f.under)

-- the sum of the weights, in m-th parts of 1
abbrev pub sum_of : ℕ → List (Option Fraction) → ℕ
sum_of m [] = 0
sum_of m (f ∷ fs) = shares m f + sum_of m fs

-- how a sum in m-th parts of 1 stands to 1
abbrev pub mass_of_sum : ℕ → ℕ → Mass
mass_of_sum m s = if nat_lt m s then Over else if s == m then Whole else Missing

-- how the weights' sum stands to 1, where they have a common denominator
unfoldable pub mass : Forest → Option Mass
mass row =
    let fs = weights_of true row in
    option_map (λ m. mass_of_sum m (sum_of m fs)) (common_of 1 fs)

-- no number of a weight is greater
pub record IsSmall (f : Fraction) : Type 0 where
  pub over : f.over < 1000000001000000000
  pub under : f.under ≤ 1000000000
  pub some : 1 ≤ f.under

-- the weight that a form is
abbrev pub view_weight : View → Option Fraction
view_weight (Word span text) = weight text.now
view_weight (Group span parts) = None
