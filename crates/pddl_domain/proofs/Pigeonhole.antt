-- Of more places than values two have the same value.
use Rattle.std.proofs.Common.{◌≡◌, ℕ, zero, suc, ◌<◌, ◌≤◌, ◌⊎◌, inl, inr, sym, ◌∙◌, ap, arith, cond, ◌==◌}
use Rattle.std.proofs.lemmas.Bool.Decides.{nat_tests}
use Rattle.std.proofs.lemmas.Bool.{cases_lt}

-- two places up to n with the same value
pub record Repeats (n : ℕ) (f : ℕ → ℕ) : Type 0 where
  pub i : ℕ
  pub j : ℕ
  pub before : i < j
  pub within : j ≤ n
  pub same : f i ≡ f j

-- whether some place up to n has the value v
pub data Found (n : ℕ) (f : ℕ → ℕ) (v : ℕ) : Type 0 where
  at : (i : ℕ) → i ≤ n → f i ≡ v → Found n f v
  nowhere : ((i : ℕ) → i ≤ n → f i ≡ v → ⊥) → Found n f v

pub same_or_not : (a b : ℕ) → (a ≡ b) ⊎ (a ≡ b → ⊥)
same_or_not a b = elim (cases_lt a b) [
  | inl h ↦ inr (λ e. omega arith)
  | inr h ↦ elim (cases_lt b a) [ inl g ↦ inr (λ e. omega arith) | inr g ↦ inl (omega arith) ]
]

find : (n : ℕ) (f : ℕ → ℕ) (v : ℕ) → Found n f v
find zero f v = elim (same_or_not (f 0) v) [
  | inl e ↦ at 0 (omega arith) e
  | inr ne ↦ nowhere (λ i h e. ne (ap f (let z : 0 ≡ i = omega arith in z) ∙ e))
]
find (suc n) f v = elim (find n f v) [
  | at i h e ↦ at i (omega arith) e
  | nowhere none ↦ elim (same_or_not (f (suc n)) v) [
    | inl e ↦ at (suc n) (omega arith) e
    | inr ne ↦ nowhere (λ i h e. elim (cases_lt i (suc n)) [
      | inl lt ↦ none i (omega arith) e
      | inr ge ↦ ne (ap f (let z : suc n ≡ i = omega arith in z) ∙ e)
    ])
  ]
]

-- v in the place of n
moved : ℕ → ℕ → ℕ → ℕ
moved n v x = cond (x == n) v x

moved-at : (n v x : ℕ) → x ≡ n → moved n v x ≡ v
unfolding moved
moved-at n v x e = grind (arith, nat_tests)

moved-other : (n v x : ℕ) → (x ≡ n → ⊥) → moved n v x ≡ x
unfolding moved
moved-other n v x off = grind (arith, nat_tests)

moved_below : (n v x : ℕ) → x < suc n → v < suc n → (v ≡ n → x ≡ n → ⊥) → moved n v x < n
moved_below n v x lt vlt apart = elim (same_or_not x n) [
  | inl e ↦ (rw (moved-at n v x e) (let ne : v ≡ n → ⊥ = λ h. apart h e in omega arith))
  | inr ne ↦ (rw (moved-other n v x ne) (omega arith))
]

same_moved : (n v x y : ℕ) → (x ≡ v → ⊥) → (y ≡ v → ⊥) → moved n v x ≡ moved n v y → x ≡ y
same_moved n v x y nx ny e = elim (same_or_not x n) [
  | inl ex ↦ elim (same_or_not y n) [
    | inl ey ↦ (ex ∙ sym ey)
    | inr ey ↦ absurd (ny (sym (moved-other n v y ey) ∙ (sym e ∙ moved-at n v x ex)))
  ]
  | inr ex ↦ elim (same_or_not y n) [
    | inl ey ↦ absurd (nx (sym (moved-other n v x ex) ∙ (e ∙ moved-at n v y ey)))
    | inr ey ↦ (sym (moved-other n v x ex) ∙ (e ∙ moved-other n v y ey))
  ]
]

pub repeats : (n : ℕ) (f : ℕ → ℕ) → ((i : ℕ) → i ≤ n → f i < n) → Repeats n f
repeats zero f below = absurd (let h = below 0 (omega arith) in omega (arith, h))
repeats (suc n) f below = elim (find n f (f (suc n))) [
  | at i h e ↦ record { i = i; j = suc n; before = omega arith; within = omega arith; same = e }
  | nowhere none ↦ (let last : f (suc n) < suc n = below (suc n) (omega arith) in
      let r = repeats n (λ i. moved n (f (suc n)) (f i))
      (λ i h. moved_below n (f (suc n)) (f i) (below i (omega arith)) last (λ ev ei. none i h (ei ∙ sym ev))) in
      record {
        i = r.i;
        j = r.j;
        before = r.before;
        within = (let h = r.within in omega (arith, h));
        same = same_moved n (f (suc n)) (f r.i) (f r.j)
            (none r.i (let b = r.before in let w = r.within in omega (arith, b, w)))
            (none r.j r.within) r.same;
      })
]
