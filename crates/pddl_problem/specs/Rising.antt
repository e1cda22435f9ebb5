-- Private: forms in the order of the text.
use Rattle.std.specs.Prelude.{ℕ}
use Rattle.sexpr_text.specs.Forest.{Forest}
use Rattle.sexpr_text.specs.Formed.{IsRising}

-- forms whose spans rise, from some offset up to another
pub record Rises (row : Forest) : Type 0 where
  pub low : ℕ
  pub high : ℕ
  pub rising : IsRising low high row
