-- What the words of a State are.
use Rattle.std.specs.Prelude.{◌≡◌, ℕ, ◌<◌, ◌^◌, List, length}
use Rattle.std.specs.List.{All}

-- four words of 64 bits
pub record IsFourWords (words : List ℕ) : Type 0 where
  pub count : length words ≡ 4
  pub each : All (λ w. w < 2 ^ 64) words
