-- Weights are added exactly: the common denominator is a multiple of each denominator.
use Prim.Native.Nat.{◌∣◌}
use Rattle.std.proofs.Common.{◌≡◌, ℕ, zero, suc, ◌+◌, ◌*◌, ◌/◌, ◌%◌, ◌<◌, ◌≤◌, ◌==◌, Bool, true, false, ◌&&◌, if◌then◌else◌, nat_lt, List, [], ◌∷◌, length, get_or, refl, ap, sym, subst, ◌∙◌, arith}
use Rattle.std.specs.Prelude.{Option, Some, None, ⊤}
use Rattle.std.specs.List.{Contains}
use Rattle.std.specs.Option.{option_and_then}
use Rattle.std.proofs.lemmas.Bool.Decides.{nat_tests}
use Rattle.std.proofs.lemmas.Nat.Gcd.{dvd_trans, dvd_of_mod-eq-zero, mod-eq-zero_of_dvd, dvd_refl}
use Rattle.std.proofs.Math.Nat.{one-dvd, zero-div, div-mul_cancel, dvd-mul_left, dvd-mul_right, mul_assoc, mul_comm}
use Rattle.domain_read.specs.declared.weights.Fraction.{Fraction}
use Rattle.domain_read.specs.Weights.{greatest, gcd, lcm, most_under, common_with, common_of, shares}
use Rattle.list_laws.proofs.Booleans.{and_first, and_second, true_and_false}
use Rattle.list_laws.proofs.Numbers.{is_zero, zero_test}
use Rattle.std.proofs.lemmas.Bool.{and_from}

-- where 1 passes, the greatest number that does passes
greatest_passes : (p : ℕ → Bool) (n : ℕ) → p 1 ≡ true → p (greatest p (suc n)) ≡ true
greatest_passes p zero h = by_test (p 1) refl
  where
    by_test : (v : Bool) → p 1 ≡ v → p (if v then 1 else 0) ≡ true
    by_test true e = h
    by_test false e = absurd (true_and_false (p 1) h e)
greatest_passes p (suc n) h = by_test (p (suc (suc n))) refl (greatest_passes p n h)
  where
    by_test : (v : Bool) → p (suc (suc n)) ≡ v → p (greatest p (suc n)) ≡ true → p (if v then suc (suc n) else greatest p (suc n)) ≡ true
    by_test true e below = e
    by_test false e below = below

gcd_divides : (a b : ℕ) → (gcd (suc a) b ∣ suc a) × (gcd (suc a) b ∣ b)
unfolding gcd
gcd_divides a b =
    let p : ℕ → Bool = λ d. suc a % d == 0 && b % d == 0 in
    let g : ℕ = greatest p (suc a) in
    let one : p 1 ≡ true = and_from (suc a % 1 == 0) (b % 1 == 0) (zero_test (suc a % 1) (mod-eq-zero_of_dvd 1 (one-dvd (suc a)))) (zero_test (b % 1) (mod-eq-zero_of_dvd 1 (one-dvd b))) in
    let passes : p g ≡ true = greatest_passes p a one in (
      dvd_of_mod-eq-zero g (is_zero (suc a % g) (and_first (suc a % g == 0) (b % g == 0) passes)),
      dvd_of_mod-eq-zero g (is_zero (b % g) (and_second (suc a % g == 0) (b % g == 0) passes)),
    )

regroup : (q g r : ℕ) → q * (r * g) ≡ q * g * r
regroup q g r = ap (λ n. q * n) (mul_comm r g) ∙ sym (mul_assoc q g r)

-- the least common multiple is a multiple of both
lcm_divides : (a b : ℕ) → (a ∣ lcm a b) × (b ∣ lcm a b)
lcm_divides zero b =
    let none : zero / gcd zero b * b ≡ zero = ap (λ n. n * b) (zero-div (gcd zero b)) ∙ omega arith in
    (subst (λ n. zero ∣ n) (sym none) (dvd_refl zero), dvd-mul_left b (zero / gcd zero b))
lcm_divides (suc a) b =
    let g : ℕ = gcd (suc a) b in
    let both = gcd_divides a b in
    let e : suc a / g * g ≡ suc a = div-mul_cancel g both.0 in
    let f : b / g * g ≡ b = div-mul_cancel g both.1 in
    let is : suc a / g * b ≡ suc a * (b / g) =
    ap (λ n. suc a / g * n) (sym f) ∙ (regroup (suc a / g) g (b / g) ∙ ap (λ n. n * (b / g)) e) in
    (subst (λ n. suc a ∣ n) (sym is) (dvd-mul_right (suc a) (b / g)), dvd-mul_left b (suc a / g))

-- one weight more
abbrev IsMultiple : Option ℕ → ℕ → Option Fraction → Type 0
IsMultiple None m f = ⊤
IsMultiple (Some n) m None = ⊥
IsMultiple (Some n) m (Some f) = (m ∣ n) × (f.under ∣ n)

with_multiple : (m : ℕ) (f : Option Fraction) → IsMultiple (common_with m f) m f
with_multiple m None = tt
with_multiple m (Some f) = by_test (nat_lt most_under (lcm m f.under))
  where
    by_test : (v : Bool) → IsMultiple (if v then None else Some (lcm m f.under)) m (Some f)
    by_test true = tt
    by_test false = lcm_divides m f.under

-- the multiple of m and some weights' denominators
abbrev AreMultiples : Option ℕ → ℕ → List (Option Fraction) → Type 0
AreMultiples None m fs = ⊤
AreMultiples (Some n) m fs = (m ∣ n) × ((k : ℕ) (w : Fraction) → k < length fs → get_or fs k (Some w) ≡ Some w → w.under ∣ n)

next_multiple : (m n : ℕ) (f : Option Fraction) (fs : List (Option Fraction)) → IsMultiple (Some n) m f → (o : Option ℕ) → AreMultiples o n fs → AreMultiples o m (f ∷ fs)
next_multiple m n f fs one None h = tt
next_multiple m n None fs one (Some k) h = absurd one
next_multiple m n (Some f) fs one (Some k) h = (dvd_trans m one.0 h.0, each)
  where
    each : (i : ℕ) (w : Fraction) → i < length (Some f ∷ fs) → get_or (Some f ∷ fs) i (Some w) ≡ Some w → w.under ∣ k
    each zero w l e =
        let same : f ≡ w = cc in
        subst (λ v. v.under ∣ k) same (dvd_trans f.under one.1 h.0)
    each (suc i) w l e = h.1 i w (omega arith) e

of_multiples : (fs : List (Option Fraction)) (m : ℕ) → AreMultiples (common_of m fs) m fs
of_multiples [] m = (dvd_refl m, λ k w l e. absurd (omega arith))
of_multiples (f ∷ fs) m = by_common (common_with m f) (with_multiple m f) (λ n. of_multiples fs n)
  where
    by_common : (o : Option ℕ) → IsMultiple o m f → ((n : ℕ) → AreMultiples (common_of n fs) n fs) → AreMultiples (option_and_then (λ n. common_of n fs) o) m (f ∷ fs)
    by_common None one others = tt
    by_common (Some n) one others = next_multiple m n f fs one (common_of n fs) (others n)

denominator_divides : (fs : List (Option Fraction)) (m n : ℕ) (w : Fraction) → common_of m fs ≡ Some n → Contains fs (Some w) → w.under ∣ n
denominator_divides fs m n w h at = (subst (λ o. AreMultiples o m fs) h (of_multiples fs m)).1 at.0 w at.1 at.2

-- what a weight counts for, in parts of 1, is exactly the weight
pub shares_exact : (fs : List (Option Fraction)) (m : ℕ) (w : Fraction) → common_of 1 fs ≡ Some m → Contains fs (Some w) → shares m (Some w) * w.under ≡ w.over * m
shares_exact fs m w h at =
    let e : m / w.under * w.under ≡ m = div-mul_cancel w.under (denominator_divides fs 1 m w h at) in
    mul_assoc w.over (m / w.under) w.under ∙ ap (λ n. w.over * n) e
