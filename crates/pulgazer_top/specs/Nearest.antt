-- The nearest known word: the one from which the fewest edits lead to a word, the first where several do.
-- None is near where more than half of its characters would have to change.
use Rattle.std.specs.Prelude.{◌/◌, ℕ, if◌then◌else◌, List, [], ◌∷◌, ◌++◌, Option, Some, None, codes, length, map, nat_eq, nat_le, nat_lt}
use Rattle.std.specs.Str.{chars}
use Rattle.strsim.specs.Edits.{levenshtein_row}
use Rattle.command_base.specs.Words.{Bytes}

-- how many characters must be put in, taken out or changed
abbrev pub edits : Bytes → Bytes → ℕ
edits word known = levenshtein_row nat_eq (chars word) (chars known) (length (chars known))

-- the nearer one of two known words
abbrev pub nearer : Bytes → Option Bytes → Bytes → Option Bytes
nearer word None known = if nat_le (edits word known) (length known / 2) then Some known else None
nearer word (Some best) known =
    if nat_lt (edits word known) (edits word best) then Some known else Some best

-- the nearest one of known words, where this one is the nearest of those before
abbrev pub nearest_after : Bytes → Option Bytes → List Bytes → Option Bytes
nearest_after word best [] = best
nearest_after word best (known ∷ more) = nearest_after word (nearer word best known) more

abbrev pub nearest : Bytes → List Bytes → Option Bytes
nearest word known = nearest_after word None known
