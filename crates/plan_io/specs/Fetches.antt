-- The fetches of a call, as the shelf tells of them. `fetched` says of two states of the shelf that
-- the second came of a fetch of the file of this name in the first; `faults` is the count of
-- faults.
use Rattle.std.specs.Prelude.{◌≡◌, ◌⊎◌, ℕ, List, [], ◌∷◌}
use Rattle.plan_io.specs.Counts.{Rose}

-- one fetch of each of these files, in this order, led from the state before to the state after
abbrev pub Fetches : {S : Type 0} → (S → List ℕ → S → Type 0) → List (List ℕ) → S → S → Type 0
Fetches fetched [] before after = after ≡ before
Fetches {S} fetched (name ∷ names) before after =
    (between : S) × fetched before name between × Fetches fetched names between after

-- nothing was fetched
abbrev pub FetchesNothing : {S : Type 0} → S → S → Type 0
FetchesNothing {S} before after = after ≡ before

-- nothing was fetched; or the file of this name was, once and only because it is needed (`Needed`),
-- and then came the fetches that Then says. Where Then is of this form again, the nesting is the
-- order in which files are fetched, as far as they are needed
abbrev pub MayFetch : {S : Type 0} → (S → List ℕ → S → Type 0) → Type 0 → List ℕ
    → (S → S → Type 0) → S → S → Type 0
MayFetch {S} fetched Needed name Then before after =
    (after ≡ before) ⊎ (Needed × (between : S) × fetched before name between × Then between after)

-- the last fetch that led from the state before to the state after was of this file, and in it, and
-- in none before it, the count of faults rose
pub record FailedLast {S : Type 0} (fetched : S → List ℕ → S → Type 0) (faults : S → ℕ)
    (before after : S) (name : List ℕ) : Type 0 where
  pub earlier : List (List ℕ)
  pub between : S
  pub came : Fetches fetched earlier before between
  pub quiet : faults between ≡ faults before
  pub fetch : fetched between name after
  pub rose : Rose (faults between) (faults after)
