-- What is printed below the line of a fault: the line of the file that it is on, a caret below its
-- column, and the word there with what the kind of fault means. All of it is a function of the
-- file's bytes and the fault.
use Rattle.std.specs.Prelude.{ℕ, suc, zero, ◌+◌, ◌-◌, ◌==◌, nat_le, Bool, ◌&&◌, ◌||◌, not, min}
use Rattle.std.specs.Prelude.{if◌then◌else◌, List, [], ◌∷◌, ◌++◌, length, map, take, drop, codes}
use Rattle.std.specs.Prelude.{position, unwrap_or}
use Rattle.plan_rules.specs.Texts.{line_feed}
use Rattle.sexpr_text.specs.Lexis.{is_line_feed, is_word_byte}
use Rattle.sexpr_text.specs.declared.faults.InputFault.{InputFault}
use Rattle.answer_help.specs.FaultKinds.{fault_meaning}

-- how many bytes come before the first that the test holds for
abbrev pub length_before : (ℕ → Bool) → List ℕ → ℕ
length_before test text = unwrap_or (position test text) (length text)

-- the first line of a text, without its end
abbrev pub first_line : List ℕ → List ℕ
first_line text = take (length_before is_line_feed text) text

-- the text after its first line, and after so many lines
abbrev pub after_line : List ℕ → List ℕ
after_line text = drop (suc (length_before is_line_feed text)) text

abbrev pub after_lines : ℕ → List ℕ → List ℕ
after_lines zero text = text
after_lines (suc lines) text = after_line (after_lines lines text)

-- the most bytes of a line that are shown, and how many of them stand before the column
abbrev pub most_of_line : ℕ
most_of_line = 120

abbrev pub most_before : ℕ
most_before = 60

-- where the part of a line begins that is shown, for a fault after so many bytes of the line
abbrev pub shown_from : List ℕ → ℕ → ℕ
shown_from line before =
    if nat_le (length line) most_of_line then 0 else min (before - most_before) (length line)

-- the part of a line from there on that is shown
abbrev pub shown_part : List ℕ → ℕ → List ℕ
shown_part line from = take most_of_line (drop from line)

-- a byte as it is shown: a tab stays, and what can't be printed is a question mark
abbrev pub shown_byte : ℕ → ℕ
shown_byte byte = if byte == 9 || (nat_le 32 byte && nat_le byte 126) then byte else 63

-- what stands below a byte before the caret: a tab below a tab, so that the caret stands right
abbrev pub blank_below : ℕ → ℕ
blank_below byte = if byte == 9 then 9 else 32

-- what stands for a part that is left out before the part that is shown, and below it
abbrev pub cut_mark : ℕ → List ℕ
cut_mark from = if from == 0 then [] else codes ".. "

abbrev pub below_mark : ℕ → List ℕ
below_mark from = if from == 0 then [] else codes "   "

-- what stands for a part that is left out after it
abbrev pub end_mark : List ℕ → ℕ → List ℕ
end_mark line from = if nat_le (length line) (from + most_of_line) then [] else codes " .."

-- the word at the front of a text: its first byte, and the bytes of words that follow
abbrev pub word_at : List ℕ → List ℕ
word_at text = take (1 + length_before (λ byte. not (is_word_byte byte)) (drop 1 text)) text

-- the word between quotes, as far as it is shown; nothing where no word is
abbrev pub quoted_word : List ℕ → List ℕ
quoted_word [] = []
quoted_word (byte ∷ word) =
    codes "`" ++ map shown_byte (take most_before (byte ∷ word)) ++ codes "`: "

-- the line of the fault, with what can be shown of it
abbrev pub shown_line : List ℕ → ℕ → List ℕ
shown_line line before =
    cut_mark (shown_from line before)
    ++ map shown_byte (shown_part line (shown_from line before))
    ++ end_mark line (shown_from line before) ++ line_feed

-- the caret, below the byte after so many bytes of the line
abbrev pub caret_line : List ℕ → ℕ → List ℕ
caret_line line before =
    below_mark (shown_from line before)
    ++ map blank_below (take (before - shown_from line before)
    (shown_part line (shown_from line before)))
    ++ codes "^" ++ line_feed

-- what is printed below the line of a fault of a file with these bytes
abbrev pub fault_help : List ℕ → InputFault → List ℕ
fault_help bytes fault =
    let line = first_line (after_lines (fault.place.line - 1) bytes) in
    let before = fault.place.column - 1 in
    shown_line line before ++ caret_line line before
    ++ quoted_word (word_at (drop before line)) ++ fault_meaning fault.kind ++ line_feed
