-- Worked examples. Node 0 leads to itself and to node 1, which leads to itself alone. The
-- proposition, a number, holds of the node of that number.
use Rattle.std.proofs.Common.{◌≡◌, ◌⊎◌, ℕ, zero, suc, ◌<◌, List, [], ◌∷◌, length, Some, None, refl, arith, inl, inr}
use Rattle.ctl_syntax.specs.Goals.{plain, negation, af, ef, ag, au, EachPlain, map_plain}
use Rattle.ctl_syntax.specs.Paths.{Meets}
use Rattle.task_core.specs.Paths.{IsPath}
use Rattle.ctl_syntax.specs.Truth.{Anything, Satisfies}
use Rattle.ctl_syntax.proofs.Meeting.{meets_cases, meets_nothing}

-- y follows x
abbrev Leads : ℕ → ℕ → Type 0
Leads x y = (y ≡ x) ⊎ ((x ≡ 0) × (y ≡ 1))

abbrev Is : ℕ → ℕ → Type 0
Is p x = x ≡ p

-- node 0 may come to node 1
may_come : Satisfies Leads Is (ef (plain 1)) 0
may_come =
    record {
      rest = 1 ∷ [];
      path = (inr (refl, refl), tt);
      meets = record { place = 1; node = 1; is = refl; has = refl; before = λ k y l e. tt };
    }

-- it may stay for ever, for every number of steps
stay : ℕ → List ℕ
stay zero = []
stay (suc n) = 0 ∷ stay n

stays_long : (n : ℕ) → length (stay n) ≡ n
unfolding stay
stays_long zero = refl
stays_long (suc n) = let h = stays_long n in omega (arith, h)

stays_path : (n : ℕ) → IsPath Leads 0 (stay n)
unfolding stay
stays_path zero = tt
stays_path (suc n) = (inl refl, stays_path n)

-- so node 1 doesn't come about on every path within a bound
never_meets : (n : ℕ) → Meets Anything (Is 1) (0 ∷ stay n) → ⊥
unfolding stay
never_meets zero m = elim (meets_cases Anything (Is 1) 0 [] m) [ inl e ↦ absurd (omega arith) | inr later ↦ meets_nothing Anything (Is 1) later.1 ]
never_meets (suc n) m = elim (meets_cases Anything (Is 1) 0 (0 ∷ stay n) m) [ inl e ↦ absurd (omega arith) | inr later ↦ never_meets n later.1 ]

not_always : Satisfies Leads Is (negation (af (plain 1))) 0
not_always e = never_meets e.steps (e.meets (stay e.steps) (stays_long e.steps) (stays_path e.steps))

-- what stands in the place of the plain parts
mapped : map_plain suc (au (plain 0) (ag (plain 2))) ≡ au (plain 1) (ag (plain 3))
mapped = refl

each : EachPlain (λ p. p < 3) (au (plain 0) (ag (plain 2)))
each = (omega arith, omega arith)
