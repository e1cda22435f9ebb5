-- Private: ranks of numbers, by which it is seen that a walk doesn't come back.
use Rattle.std.specs.Prelude.{◌≡◌, ◌<◌, ◌≤◌, ◌^◌, ℕ, true, List, length}
use Rattle.std.specs.List.{Contains}
use Rattle.plan_witness.specs.Ways.{at}
use Rattle.plan_witness.specs.declared.levels.Levels.{Levels}

-- Private: no number below n leads to one of a higher rank
abbrev pub NeverRises : ℕ → (ℕ → List ℕ) → List ℕ → Type 0
NeverRises n next ranks = (i j : ℕ) → i < n → Contains (next i) j → at ranks j ≤ at ranks i

-- Private: each number below n has a rank, and where it is said that they fall, none leads to a higher one
pub record AreLevels (n : ℕ) (next : ℕ → List ℕ) (levels : Levels) : Type 0 where
  pub count : length levels.ranks.items ≡ n
  pub small : (i : ℕ) → at levels.ranks.items i < 2 ^ 32
  pub falling : levels.falling ≡ true → NeverRises n next levels.ranks.items
