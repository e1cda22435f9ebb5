-- Counts that stand at a bound: a part that stands there gives the same whole.
use Rattle.std.proofs.Common.{◌≡◌, ℕ, zero, suc, ◌+◌, ◌*◌, ◌^◌, ◌<◌, ◌≤◌, min, ap, sym, ◌∙◌, arith, inl, inr}
use Rattle.std.proofs.lemmas.Bool.{cases_lt}
use Rattle.std.proofs.Math.Nat.{min-eq_left, mul_comm, mul_assoc, mul-suc, mul-zero, pow-suc, pow-zero}
use Rattle.ground_instances.specs.Counts.{shown}
use Rattle.ground_task.specs.Capped.{capped}

pub capped_factor : (a b : ℕ) → capped (capped a * b) ≡ capped (a * b)
capped_factor a zero = ap capped (mul-zero (capped a) ∙ sym (mul-zero a))
capped_factor a (suc b) =
    let x : capped a * suc b ≡ capped a * b + capped a = mul-suc (capped a) b in
    let y : a * suc b ≡ a * b + a = mul-suc a b in
    omega (arith, capped_factor a b, x, y)

pub capped_factors : (a b : ℕ) → capped (capped a * capped b) ≡ capped (a * b)
capped_factors a b = capped_factor a (capped b) ∙ ap capped (mul_comm a (capped b)) ∙ capped_factor b a ∙ ap capped (mul_comm b a)

-- one factor more
pub product_step : (count part rest made next : ℕ) → made ≡ capped part → next ≡ capped (count * made) → capped (next * rest) ≡ capped (count * (part * rest))
product_step count part rest made next is by =
    ap (λ n. capped (n * rest)) by
    ∙ capped_factor (count * made) rest
    ∙ ap (λ n. capped (count * n * rest)) is
    ∙ ap capped (ap (λ n. n * rest) (mul_comm count (capped part)) ∙ mul_assoc (capped part) count rest)
    ∙ capped_factor part (count * rest)
    ∙ ap capped (sym (mul_assoc part count rest) ∙ ap (λ n. n * rest) (mul_comm part count) ∙ mul_assoc count part rest)

-- one summand more
pub total_step : (count part rest made next : ℕ) → made ≡ capped part → next ≡ capped (count + made) → capped (next + rest) ≡ capped (count + (part + rest))
total_step count part rest made next is by = omega (arith, is, by)

pub capped_power : (a n : ℕ) → capped (capped a ^ n) ≡ capped (a ^ n)
capped_power a zero = ap capped (pow-zero (capped a) ∙ sym (pow-zero a))
capped_power a (suc n) =
    ap capped (pow-suc (capped a) n)
    ∙ sym (capped_factors (capped a ^ n) (capped a))
    ∙ ap (λ k. capped (k * capped (capped a))) (capped_power a n)
    ∙ capped_factors (a ^ n) (capped a)
    ∙ ap capped (mul_comm (a ^ n) (capped a))
    ∙ capped_factor a (a ^ n)
    ∙ ap capped (mul_comm a (a ^ n) ∙ sym (pow-suc a n))

power_zero : (n : ℕ) → 0 < n → 0 ^ n ≡ 0
power_zero zero some = absurd (omega arith)
power_zero (suc n) some = pow-suc 0 n ∙ mul-zero (0 ^ n)

power_one : (n : ℕ) → 1 ^ n ≡ 1
power_one zero = pow-zero 1
power_one (suc n) = let e : 1 ^ suc n ≡ 1 ^ n * 1 = pow-suc 1 n in omega (arith, power_one n, e)

power_above : (a n : ℕ) → n < suc (suc a) ^ n
power_above a zero = omega (arith, pow-zero (suc (suc a)))
power_above a (suc n) =
    let e : suc (suc a) ^ suc n ≡ suc (suc a) ^ n * suc (suc a) = pow-suc (suc (suc a)) n in
    let f : suc (suc a) ^ n * suc (suc a) ≡ suc (suc a) ^ n * suc a + suc (suc a) ^ n = mul-suc (suc (suc a) ^ n) (suc a) in
    let g : suc (suc a) ^ n * suc a ≡ suc (suc a) ^ n * a + suc (suc a) ^ n = mul-suc (suc (suc a) ^ n) a in
    omega (arith, power_above a n, e, f, g)

-- beyond the bound every exponent gives the same
pub large_power : (a m n : ℕ) → 65 ≤ m → 65 ≤ n → capped (a ^ m) ≡ capped (a ^ n)
large_power zero m n x y = ap capped (power_zero m (omega arith) ∙ sym (power_zero n (omega arith)))
large_power (suc zero) m n x y = ap capped (power_one m ∙ sym (power_one n))
large_power (suc (suc a)) m n x y = omega (arith, power_above a m, power_above a n)

pub shown_power : (a n : ℕ) → capped (a ^ shown n) ≡ capped (a ^ n)
shown_power a n = elim (cases_lt 1000001 n) [
  | inl above ↦ large_power a (shown n) n (omega arith) (omega arith)
  | inr below ↦ ap (λ k. capped (a ^ k)) (min-eq_left below)
]

pub bounded_power : (a n : ℕ) → capped (a ^ min n 65) ≡ capped (a ^ n)
bounded_power a n = elim (cases_lt 65 n) [
  | inl above ↦ large_power a (min n 65) n (omega arith) (omega arith)
  | inr below ↦ ap (λ k. capped (a ^ k)) (min-eq_left below)
]

-- a power of a count that stands at the bound, to a shown exponent
pub power_of : (a n made exponent r : ℕ) → made ≡ capped a → exponent ≡ shown n → r ≡ capped (made ^ exponent) → r ≡ capped (a ^ n)
power_of a n made exponent r is shows by =
    by ∙ ap (λ k. capped (k ^ exponent)) is ∙ capped_power a exponent ∙ ap (λ k. capped (a ^ k)) shows ∙ shown_power a n
