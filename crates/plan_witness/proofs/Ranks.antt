-- Ranks that never rise along a walk.
use Rattle.std.proofs.Common.{◌≡◌, ◌<◌, ◌≤◌, ◌+◌, ℕ, zero, suc, List, [], ◌∷◌, ◌++◌, Option, sym, subst, arith}
use Rattle.std.specs.List.{Contains}
use Rattle.std.specs.Option.{MatchOption}
use Rattle.plan_check.specs.Walks.{IsWalk, StaysBelow, last_number}
use Rattle.plan_witness.specs.Levels.{NeverRises}
use Rattle.plan_witness.specs.Ways.{IsOnRound, at, far}

-- what holds of each place of a list, and of one element more, holds of each place of both
pub at_pushed : (P : ℕ → Type 0) (xs : List ℕ) (x : ℕ) → P 0 → P x → ((i : ℕ) → P (at xs i)) → (i : ℕ) → P (at (xs ++ x ∷ []) i)
at_pushed P [] x none here each zero = here
at_pushed P [] x none here each (suc i) = none
at_pushed P (y ∷ xs) x none here each zero = each 0
at_pushed P (y ∷ xs) x none here each (suc i) = at_pushed P xs x none here (λ k. each (suc k)) i

module _ (n : ℕ) (next : ℕ → List ℕ) (stays : StaysBelow n next) (ranks : List ℕ) (never : NeverRises n next ranks) where
  falls : (i : ℕ) (rest : List ℕ) → i < n → IsWalk next i rest → at ranks (last_number i rest) ≤ at ranks i
  falls i [] l walk = omega arith
  falls i (j ∷ rest) l walk =
      let further = falls j rest (stays i j l walk.0) walk.1 in
      let here = never i j l walk.0 in
      omega (arith, further, here)

  -- a number whose followers are all lower doesn't come back
  pub not_back : (i : ℕ) → i < n → ((j : ℕ) → Contains (next i) j → at ranks j + 1 ≤ at ranks i) → IsOnRound next i → ⊥
  not_back i l lower on =
      let further = falls on.follower on.rest (stays i on.follower l on.walk.0) on.walk.1 in
      let back = subst (λ (k : ℕ). at ranks k ≤ at ranks on.follower) on.round further in
      let here = lower on.follower on.walk.0 in
      omega (arith, back, here)

-- what is known of the nearest number stays where neither it nor its length changes
pub found_kept : (lengths : List ℕ) (On : ℕ → Type 0) (n : ℕ) (nearest before : Option ℕ) (least old : ℕ) → nearest ≡ before → least ≡ old
    → MatchOption before (old ≡ far) (λ i. (at lengths i ≡ old) × On i × (i < n) × (old < far)) → MatchOption nearest (least ≡ far) (λ i. (at lengths i ≡ least) × On i × (i < n) × (least < far))
found_kept lengths On n nearest before least old same is found =
    subst (λ (o : Option ℕ). MatchOption o (least ≡ far) (λ i. (at lengths i ≡ least) × On i × (i < n) × (least < far))) (sym same)
    (subst (λ (m : ℕ). MatchOption before (m ≡ far) (λ i. (at lengths i ≡ m) × On i × (i < n) × (m < far))) (sym is) found)
