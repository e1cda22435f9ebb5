-- What is known where a formula or an effect is read: the names that are declared, and the
-- variables in scope. Each kind of name is counted from 0.
use Rattle.std.specs.Prelude.{ℕ, List, [], ◌∷◌, Option, Some, None, if◌then◌else◌, length, position}
use Rattle.std.specs.Prelude.{reverse}
use Rattle.std.specs.Str.{bytes_eq}

-- the types (`object` first), the predicates with the number of terms that each takes, and the
-- objects (constants first)
pub record Known : Type 0 where
  pub types : List (List ℕ)
  pub predicates : List (List ℕ)
  pub arities : List ℕ
  pub objects : List (List ℕ)

-- the number of a name in a list of names
abbrev pub number_in : List (List ℕ) → List ℕ → Option ℕ
number_in names name = position (bytes_eq name) names

-- the variables in scope are the list of their names, the outermost first

-- the number of the variable that a name means: the innermost of that name. Here the innermost is
-- first
abbrev pub number_from_inside : List (List ℕ) → List ℕ → Option ℕ
number_from_inside [] name = None
number_from_inside (inner ∷ outer) name =
    if bytes_eq name inner then Some (length outer) else number_from_inside outer name

abbrev pub variable_number : List (List ℕ) → List ℕ → Option ℕ
variable_number scope name = number_from_inside (reverse scope) name
