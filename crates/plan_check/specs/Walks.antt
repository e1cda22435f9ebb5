-- Private: walks in a finite graph whose nodes are the numbers below n, each with the list of those
-- that follow it.
use Rattle.std.specs.Prelude.{◌≡◌, ◌⊎◌, ◌<◌, ◌≤◌, ℕ, true, false, Bool, List, [], ◌∷◌, ⊤}
use Rattle.std.specs.Prelude.{length, slice_index_or}
use Rattle.std.specs.List.{Contains}

-- Private: what follows a number below n is below n
abbrev pub StaysBelow : ℕ → (ℕ → List ℕ) → Type 0
StaysBelow n next = (i j : ℕ) → i < n → Contains (next i) j → j < n

-- Private: i and then the numbers of the list are a walk: each follows the one before
abbrev pub IsWalk : (ℕ → List ℕ) → ℕ → List ℕ → Type 0
IsWalk next i [] = ⊤
IsWalk next i (j ∷ rest) = Contains (next i) j × IsWalk next j rest

-- Private: the last number of that walk
abbrev pub last_number : ℕ → List ℕ → ℕ
last_number i [] = i
last_number i (j ∷ rest) = last_number j rest

-- Private: number i has a mark
abbrev pub IsMarked : List Bool → ℕ → Type 0
IsMarked marks i = slice_index_or marks i false ≡ true

-- Private: some walk leads from i to a number with a mark
pub record LeadsToMarked (next : ℕ → List ℕ) (marks : List Bool) (i : ℕ) : Type 0 where
  pub rest : List ℕ
  pub walk : IsWalk next i rest
  pub ends : IsMarked marks (last_number i rest)

-- Private: some walk of one step or more ends where it began
pub record ComesRound (n : ℕ) (next : ℕ → List ℕ) : Type 0 where
  pub number : ℕ
  pub below : number < n
  pub follower : ℕ
  pub rest : List ℕ
  pub walk : IsWalk next number (follower ∷ rest)
  pub round : last_number follower rest ≡ number

-- Private: some walk has so many steps
pub record HasWalk (n : ℕ) (next : ℕ → List ℕ) (steps : ℕ) : Type 0 where
  pub start : ℕ
  pub below : start < n
  pub rest : List ℕ
  pub walk : IsWalk next start rest
  pub long : length rest ≡ steps

-- Private: no walk comes round, and the longest have so many steps, or there are no numbers at all
pub record IsLongestWalk (n : ℕ) (next : ℕ → List ℕ) (steps : ℕ) : Type 0 where
  pub never_round : ComesRound n next → ⊥
  pub most : (m : ℕ) → HasWalk n next m → m ≤ steps
  pub attained : HasWalk n next steps ⊎ ((steps ≡ 0) × (n ≡ 0))
