-- The tables of a program: rows of numbers, a line each, and how they are read.
use Rattle.std.specs.Prelude.{ℕ, zero, suc, ◌+◌, ◌-◌, ◌*◌, ◌==◌, Bool, true, false, List, [], ◌∷◌, ◌++◌, codes, decimal}
use Rattle.std.specs.Prelude.{if◌then◌else◌, length}
use Rattle.std.specs.Char.{is_ascii_digit}
use Rattle.std.specs.List.{flat_map}
use Rattle.plan_rules.specs.Texts.{line_feed}

-- a number has a space before it and a comma after it
abbrev pub number_text : ℕ → List ℕ
number_text number = codes " " ++ decimal number ++ codes ","

-- a row of numbers as a line
abbrev pub row_line : List ℕ → List ℕ
row_line row = codes "   " ++ flat_map number_text row ++ line_feed

-- a row with its length before it
abbrev pub counted : List ℕ → List ℕ
counted row = length row ∷ row

-- the rows that a text spells, after a part of a row and a part of a number: a comma ends a number, and a
-- line feed ends a row
abbrev pub rows_after : List ℕ → ℕ → List ℕ → List (List ℕ)
rows_after row number [] = []
rows_after row number (byte ∷ bytes) =
    if byte == 44 then rows_after (row ++ number ∷ []) 0 bytes
    else if byte == 10 then row ∷ rows_after [] 0 bytes
    else if is_ascii_digit byte then rows_after row (number * 10 + (byte - 48)) bytes
    else rows_after row number bytes

-- the rows that a text spells
abbrev pub rows_in : List ℕ → List (List ℕ)
rows_in text = rows_after [] 0 text
