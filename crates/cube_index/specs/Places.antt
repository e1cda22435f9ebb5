-- The first place of a part of a list of truth values where true stands.
use Rattle.std.specs.Prelude.{◌≡◌, ℕ, ◌<◌, ◌≤◌, Bool, true, false, List, Option, Some, None}
use Rattle.std.specs.Prelude.{slice_index_or}

-- false stands at each place from `from` on and before `to`, and past the end of the list
abbrev pub HasNone : List Bool → ℕ → ℕ → Type 0
HasNone bs from to = (k : ℕ) → from ≤ k → k < to → slice_index_or bs k false ≡ false

-- the first place from `from` on and before `to` where true stands; or none, where there is none
abbrev pub IsFirstTrue : List Bool → ℕ → ℕ → Option ℕ → Type 0
IsFirstTrue bs from to None = HasNone bs from to
IsFirstTrue bs from to (Some k) =
    (from ≤ k) × (k < to) × (slice_index_or bs k false ≡ true) × HasNone bs from k
