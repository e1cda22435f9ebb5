-- The greatest common divisor as a search from above.
use Rattle.std.proofs.Common.{◌≡◌, ℕ, zero, suc, ◌+◌, ◌*◌, ◌/◌, ◌%◌, ◌^◌, ◌<◌, ◌≤◌, ◌⊎◌, inl, inr, ◌==◌, Bool, true, false, ◌&&◌, refl, ap, sym, subst, ◌∙◌, take, length, List, [], ◌∷◌, get_or, ◌-◌, arith, lit<, add-one}
use Rattle.std.specs.Int.{IsGcd}
use Rattle.std.proofs.lemmas.Nat.Gcd.{le_from_IsGcd, dvd_of_mod-eq-zero, mod-eq-zero_of_dvd, le_of_dvd}
use Rattle.std.proofs.lemmas.Bool.Decides.{nat_tests}
use Prim.Native.Nat.{◌∣◌}
use Rattle.std.specs.List.{list_all}
use Rattle.std.proofs.lemmas.List.{take_all}
use Rattle.std.proofs.lemmas.Nat.{le-div}
use Rattle.std.proofs.Math.Nat.{mul-pos, one-le-pow, pow-le-pow_right}
use Rattle.domain_read.specs.Weights.{greatest, gcd}
use Rattle.list_laws.proofs.Booleans.{and_first, and_second, true_and_false}
use Rattle.list_laws.proofs.Numbers.{is_zero, zero_test}
use Rattle.std.proofs.lemmas.Bool.{and_from}

lt_or_eq : (g n : ℕ) → g ≤ n → (g < n) ⊎ (g ≡ n)
lt_or_eq g n le = grind arith

-- the greatest number that passes is found
greatest_step : (p : ℕ → Bool) (n g : ℕ) (b : Bool) → p (suc n) ≡ b → g ≤ suc n → p g ≡ true → ((d : ℕ) → g < d → d ≤ suc n → p d ≡ false) → (g ≤ n → greatest p n ≡ g) → greatest p (suc n) ≡ g
greatest_step p n g true e le good bad below = rw e (by_place (lt_or_eq g (suc n) le))
  where
    by_place : (g < suc n) ⊎ (g ≡ suc n) → suc n ≡ g
    by_place (inl lt) = absurd (true_and_false (p (suc n)) e (bad (suc n) lt (omega arith)))
    by_place (inr same) = sym same
greatest_step p n g false e le good bad below = rw e (by_place (lt_or_eq g (suc n) le))
  where
    by_place : (g < suc n) ⊎ (g ≡ suc n) → greatest p n ≡ g
    by_place (inl lt) = below (omega arith)
    by_place (inr same) = absurd (true_and_false (p (suc n)) (subst (λ d. p d ≡ true) same good) e)

greatest_is : (p : ℕ → Bool) (n g : ℕ) → g ≤ n → p g ≡ true → ((d : ℕ) → g < d → d ≤ n → p d ≡ false) → 0 < g → greatest p n ≡ g
greatest_is p zero g le good bad some = omega arith
greatest_is p (suc n) g le good bad some =
    greatest_step p n g (p (suc n)) refl le good bad (λ lower. greatest_is p n g lower good (λ d l u. bad d l (omega arith)) some)

not_true : (x : Bool) → (x ≡ true → ⊥) → x ≡ false
not_true true never = absurd (never refl)
not_true false never = refl

-- what Euclid finds is it
pub gcd_is : (a b g : ℕ) → 0 < a → 0 < g → IsGcd a b g → gcd a b ≡ g
unfolding gcd
gcd_is a b g some positive h =
    greatest_is (λ d. a % d == 0 && b % d == 0) a g (le_of_dvd some h.0)
    (and_from (a % g == 0) (b % g == 0) (zero_test (a % g) (mod-eq-zero_of_dvd g h.0)) (zero_test (b % g) (mod-eq-zero_of_dvd g h.1)))
    (λ d l u. not_true (a % d == 0 && b % d == 0) (λ both.
    let e : d ∣ a = dvd_of_mod-eq-zero d (is_zero (a % d) (and_first (a % d == 0) (b % d == 0) both)) in
    let f : d ∣ b = dvd_of_mod-eq-zero d (is_zero (b % d) (and_second (a % d == 0) (b % d == 0) both)) in
    let w : d ≤ g = le_from_IsGcd a b g d h positive e f in
    omega arith))
    positive

-- a small power of ten
pub small_power : (n : ℕ) → n ≤ 9 → 10 ^ n ≤ 1000000000
small_power n le =
    let power : 10 ^ n ≤ 10 ^ 9 = pow-le-pow_right (lit< tt) le in
    let most : 10 ^ 9 ≡ 1000000000 = refl in
    omega arith

pub some_power : (n : ℕ) → 1 ≤ 10 ^ n
some_power n = one-le-pow n 10 (lit< tt)

-- a multiple is not 0
pub some_multiple : (m g u : ℕ) → 0 < g → g ≤ m → 1 ≤ u → 1 ≤ m / g * u
some_multiple m g u some le one =
    let q : 1 ≤ m / g = le-div 1 m g some (omega arith) in
    mul-pos q one
