-- What stands at an offset of a text. A text is a list of bytes, and an offset counts them from 0.
use Rattle.std.specs.Prelude.{ℕ, zero, suc, ◌+◌, ◌-◌, ◌==◌, nat_le, Bool, ◌&&◌, ◌||◌, not}
use Rattle.std.specs.Prelude.{if◌then◌else◌, List, length, take, count_by, slice_index}
use Rattle.std.specs.List.{after_last, list_any}
use Rattle.sexpr_text.specs.declared.forms.Place.{Place}

-- byte 10
abbrev pub is_line_feed : ℕ → Bool
is_line_feed c = c == 10

-- byte 59, which is `;`
abbrev pub is_semicolon : ℕ → Bool
is_semicolon c = c == 59

-- bytes 9 to 13 and 32
abbrev pub is_space : ℕ → Bool
is_space c = (nat_le 9 c && nat_le c 13) || c == 32

-- bytes 33 to 126 other than `(`, `)` and `;`
abbrev pub is_word_byte : ℕ → Bool
is_word_byte c = nat_le 33 c && nat_le c 126 && not (c == 40) && not (c == 41) && not (c == 59)

-- the bytes before offset k that stand on its line
unfoldable pub line_before : List ℕ → ℕ → List ℕ
line_before b k = after_last is_line_feed (take k b)

-- the line is 1 plus the number of line feeds before the offset; the column is 1 plus the number of
-- bytes since the last of them, or since the start
unfoldable pub place_at : List ℕ → ℕ → Place
place_at b k =
    record { line = 1 + count_by is_line_feed (take k b); column = 1 + length (line_before b k) }

-- whether the byte at offset k is in a comment: its line has a `;` at or before it. A line feed
-- ends its line, so it is in none
unfoldable pub is_in_comment : List ℕ → ℕ → Bool
is_in_comment b k = list_any is_semicolon (line_before b (suc k))

-- whether a parenthesis opens at offset k
unfoldable pub opens_at : List ℕ → ℕ → Bool
opens_at b k = not (is_in_comment b k) && slice_index b k == 40

-- whether a parenthesis closes at offset k
unfoldable pub closes_at : List ℕ → ℕ → Bool
closes_at b k = not (is_in_comment b k) && slice_index b k == 41

-- whether offset k belongs to a word
unfoldable pub is_in_word : List ℕ → ℕ → Bool
is_in_word b k = not (is_in_comment b k) && is_word_byte (slice_index b k)

-- whether offset k belongs to no form: it is in a comment, or white space
unfoldable pub is_blank : List ℕ → ℕ → Bool
is_blank b k = is_in_comment b k || is_space (slice_index b k)

-- how many of the offsets below k pass the test
abbrev pub count_below : (ℕ → Bool) → ℕ → ℕ
count_below p zero = 0
count_below p (suc k) = count_below p k + (if p k then 1 else 0)

-- how many parentheses are open before offset k: those that opened, less those that closed
unfoldable pub depth_at : List ℕ → ℕ → ℕ
depth_at b k = count_below (opens_at b) k - count_below (closes_at b) k
