-- Marks at all numbers, by those below the number of all.
use Rattle.std.proofs.Common.{◌≡◌, ◌↔◌, ◌<◌, ℕ, Bool, List, length, sym, subst}
use Rattle.plan_check.specs.Walks.{IsMarked}
use Rattle.plan_check.proofs.MarkFacts.{marked_below}

pub everywhere : (n : ℕ) (marks seen : List Bool) (P : ℕ → Type 0) → seen ≡ marks → length marks ≡ n → ((i : ℕ) → i < n → IsMarked marks i ↔ P i) → ((i : ℕ) → P i → i < n)
    → (i : ℕ) → IsMarked seen i ↔ P i
everywhere n marks seen P same count marked below i =
    subst (λ xs. IsMarked xs i ↔ P i) (sym same) (
      (λ m. (marked i (subst (λ k. i < k) count (marked_below marks i m))).0 m),
      (λ p. (marked i (below i p)).1 p),
    )
