-- Worked examples of the definitions that compute. The text is `(a;(`, a line feed, and ` b)`.
use Rattle.std.proofs.Common.{◌≡◌, ℕ, List, [], ◌∷◌, true, false, refl}
use Rattle.std.specs.Prelude.{codes, Some, None}
use Rattle.sexpr_text.specs.declared.forms.Span.{Span}
use Rattle.sexpr_text.specs.declared.faults.FaultKind.TheVariants.{BadByte, LeftOut}
use Rattle.sexpr_text.specs.Lexis.{is_space, is_word_byte, line_before, place_at, is_in_comment, opens_at, closes_at, is_in_word, is_blank, count_below, depth_at}
use Rattle.sexpr_text.specs.Forest.{nothing, word, group, join}
use Rattle.sexpr_text.specs.Kinds.{code_of, kind_name, word_of}
use Rattle.sexpr_text.specs.Formed.{nesting_of, is_lower_word_byte}

abbrev text : List ℕ
text = 40 ∷ 97 ∷ 59 ∷ 40 ∷ 10 ∷ 32 ∷ 98 ∷ 41 ∷ []

-- bytes: a tab and a vertical tab are white space, byte 14 is not; `!` and `~` stand in words, `;`
-- and byte 127 do not
bytes_are : (is_space 9 ≡ true) × (is_space 11 ≡ true) × (is_space 14 ≡ false) × (is_word_byte 33 ≡ true) × (is_word_byte 126 ≡ true) × (is_word_byte 59 ≡ false) × (is_word_byte 127 ≡ false)
bytes_are = (refl, refl, refl, refl, refl, refl, refl)

-- lines: ` b` stands before the last byte, which is the third of line 2
line_is : line_before text 7 ≡ 32 ∷ 98 ∷ []
unfolding line_before
line_is = refl

place_is : place_at text 7 ≡ record { line = 2; column = 3 }
unfolding place_at line_before
place_is = refl

-- comments: the `;` and the `(` after it are in one, the line feed and what follows are not
comments_are : (is_in_comment text 1 ≡ false) × (is_in_comment text 2 ≡ true) × (is_in_comment text 3 ≡ true) × (is_in_comment text 4 ≡ false) × (is_in_comment text 6 ≡ false)
unfolding is_in_comment line_before
comments_are = (refl, refl, refl, refl, refl)

-- parentheses: the one in the comment opens nothing
parentheses_are : (opens_at text 0 ≡ true) × (opens_at text 3 ≡ false) × (closes_at text 7 ≡ true) × (closes_at text 6 ≡ false)
unfolding opens_at closes_at is_in_comment line_before
parentheses_are = (refl, refl, refl, refl)

-- words and blanks
words_are : (is_in_word text 1 ≡ true) × (is_in_word text 3 ≡ false) × (is_in_word text 6 ≡ true) × (is_blank text 3 ≡ true) × (is_blank text 5 ≡ true) × (is_blank text 7 ≡ false)
unfolding is_in_word is_blank is_in_comment line_before
words_are = (refl, refl, refl, refl, refl, refl)

-- depths: none is open before the first byte and at the end, one is in between
depths_are : (depth_at text 0 ≡ 0) × (depth_at text 1 ≡ 1) × (depth_at text 4 ≡ 1) × (depth_at text 7 ≡ 1) × (depth_at text 8 ≡ 0)
unfolding depth_at opens_at closes_at is_in_comment line_before
depths_are = (refl, refl, refl, refl, refl)

count_is : count_below is_space 12 ≡ 3
count_is = refl

-- trees: `a` and then `()`, two groups in one another
join_is : (s : Span) (t : Span) → join (word s (97 ∷ []) nothing) (group t nothing nothing) ≡ word s (97 ∷ []) (group t nothing nothing)
join_is s t = refl

nesting_is : (s : Span) → nesting_of (group s nothing (group s (group s nothing nothing) nothing)) ≡ 2
nesting_is s = refl

lower_are : (is_lower_word_byte 97 ≡ true) × (is_lower_word_byte 65 ≡ false) × (is_lower_word_byte 40 ≡ false)
lower_are = (refl, refl, refl)

-- kinds
kinds_are : (code_of BadByte ≡ 1) × (kind_name BadByte ≡ codes "BadByte") × (word_of BadByte ≡ None) × (word_of (LeftOut (97 ∷ [])) ≡ Some (97 ∷ []))
kinds_are = (refl, refl, refl, refl)
