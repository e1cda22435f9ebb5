-- Facts on numbers that std doesn't have in this form.
use Rattle.std.proofs.Common.{◌≡◌, ◌⊎◌, ℕ, zero, suc, ◌+◌, ◌<◌, ◌≤◌, ◌^◌, ◌&&◌, Bool, true, eqb, min, refl, arith}
use Rattle.std.proofs.Math.Nat.{pow-succ'}
use Rattle.std.proofs.lemmas.Bool.Decides.{nat_tests}
use Rattle.std.specs.Prelude.{◌==◌}

pub le_or_lt : (x y : ℕ) → (x ≤ y) ⊎ (y < x)
le_or_lt x y = grind arith

-- the test for zero
pub is_zero : (n : ℕ) → (n == 0) ≡ true → n ≡ 0
is_zero n e = grind (arith, nat_tests)

pub zero_test : (n : ℕ) → n ≡ 0 → (n == 0) ≡ true
zero_test n e = grind (arith, nat_tests)

pub below_power : (n : ℕ) → n < 2 ^ n
below_power zero = omega arith
below_power (suc n) = omega (arith, below_power n, pow-succ' 2 n)

-- the least of two bits is their "and"
pub least_bit : (x y : ℕ) → x < 2 → y < 2 → eqb (min x y) 1 ≡ (eqb x 1 && eqb y 1)
least_bit zero zero hx hy = refl
least_bit zero (suc zero) hx hy = refl
least_bit zero (suc (suc y)) hx hy = absurd (omega arith)
least_bit (suc zero) zero hx hy = refl
least_bit (suc zero) (suc zero) hx hy = refl
least_bit (suc zero) (suc (suc y)) hx hy = absurd (omega arith)
least_bit (suc (suc x)) y hx hy = absurd (omega arith)

pub trichotomy : (x y : ℕ) → (x < y) ⊎ (x ≡ y) ⊎ (y < x)
trichotomy x y = grind arith

pub below_power_two : (n : ℕ) → n + 2 ≤ 2 ^ n + 1
below_power_two n = omega (arith, below_power n)
