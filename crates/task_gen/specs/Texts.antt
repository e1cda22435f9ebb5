-- How generated texts are put together.
use Rattle.std.specs.Prelude.{ℕ, List, [], ◌∷◌, ◌++◌, codes, decimal}
use Rattle.std.specs.List.{flat_map}

-- a text, as its bytes
abbrev pub Bytes : Type 0
Bytes = List ℕ

abbrev pub line_feed : Bytes
line_feed = 10 ∷ []

-- lines, each ended by a line feed
abbrev pub lines : List Bytes → Bytes
lines = flat_map (λ line. line ++ line_feed)

-- a name made of a letter and a number, as: r12
abbrev pub numbered : Bytes → ℕ → Bytes
numbered letter i = letter ++ decimal i

-- parts, each behind a space
abbrev pub spaced : List Bytes → Bytes
spaced = flat_map (λ part. codes " " ++ part)
