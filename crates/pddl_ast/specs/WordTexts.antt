-- What names are made of where a text spells them.
use Rattle.std.specs.Prelude.{◌≡◌, ℕ, ◌<◌, true, List, All, length}
use Rattle.sexpr_text.specs.Forest.{Forest, nothing, word, group}
use Rattle.sexpr_text.specs.Formed.{is_lower_word_byte}

-- a word as texts spell it: of one byte at least, each of 33 to 126, and none of them `(`, `)`, `;`
-- or a letter `A` to `Z`
pub record IsWordText (text : List ℕ) : Type 0 where
  pub some : 0 < length text
  pub bytes : All (λ c. is_lower_word_byte c ≡ true) text

-- Private: each word among the forms is one
abbrev pub HasWordTexts : Forest → Type 0
HasWordTexts nothing = Unit {0}
HasWordTexts (word span text rest) = IsWordText text × HasWordTexts rest
HasWordTexts (group span parts rest) = HasWordTexts parts × HasWordTexts rest
