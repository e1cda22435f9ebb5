-- What holds of all forms that were read, whatever the text.
use Rattle.std.specs.Prelude.{◌≡◌, ℕ, ◌+◌, ◌-◌, ◌<◌, ◌≤◌, max, Bool, true, ◌&&◌, not, List, All}
use Rattle.std.specs.Prelude.{nat_le, length}
use Rattle.sexpr_text.specs.declared.forms.Form.{Form}
use Rattle.sexpr_text.specs.Lexis.{is_word_byte}
use Rattle.sexpr_text.specs.Forest.{Forest, nothing, word, group, forest_of}
use Rattle.sexpr_text.specs.Faults.{most_open}

-- how many groups stand in one another at most
abbrev pub nesting_of : Forest → ℕ
nesting_of nothing = 0
nesting_of (word span text rest) = nesting_of rest
nesting_of (group span parts rest) = max (1 + nesting_of parts) (nesting_of rest)

-- a byte of a word, and no letter A to Z
abbrev pub is_lower_word_byte : ℕ → Bool
is_lower_word_byte c = is_word_byte c && not (nat_le 65 c && nat_le c 90)

-- the spans rise from offset lo up to offset hi, those of a group's parts between its parentheses;
-- words are not empty, in lower case, and without the bytes that separate them
abbrev pub IsRising : ℕ → ℕ → Forest → Type 0
IsRising lo hi nothing = lo ≤ hi
IsRising lo hi (word span text rest) =
    (lo ≤ span.start) × (span.start < span.end) × (length text + span.start ≡ span.end)
    × All (λ c. is_lower_word_byte c ≡ true) text
    × IsRising span.end hi rest
IsRising lo hi (group span parts rest) =
    (lo ≤ span.start) × (span.start + 2 ≤ span.end) × IsRising (span.start + 1) (span.end - 1) parts
    × IsRising span.end hi rest

-- forms as read from a text of this many bytes: at most 200 groups in one another, spans nested and
-- rising, words as above
pub record IsFormed (size : ℕ) (forms : List Form) : Type 0 where
  pub shallow : nesting_of (forest_of forms) ≤ most_open
  pub rising : IsRising 0 size (forest_of forms)
