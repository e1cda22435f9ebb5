-- The classes of bytes, outside comments.
use Rattle.std.specs.Prelude.{◌≡◌, ℕ, ◌==◌, true, false}
use Rattle.sexpr_text.specs.declared.bytes.Class.{Class}
use Rattle.sexpr_text.specs.declared.bytes.Class.TheVariants.{LineFeed, Space, Semicolon, Open}
use Rattle.sexpr_text.specs.declared.bytes.Class.TheVariants.{Close, OfWord, Bad}
use Rattle.sexpr_text.specs.Lexis.{is_line_feed, is_semicolon, is_space, is_word_byte}

-- a bad byte, as no test holds of it
pub record IsOther (c : ℕ) : Type 0 where
  pub space : is_space c ≡ false
  pub semicolon : is_semicolon c ≡ false
  pub opens : (c == 40) ≡ false
  pub closes : (c == 41) ≡ false
  pub of_word : is_word_byte c ≡ false

-- the byte is of the class; a line feed is white space too
abbrev pub IsOfClass : ℕ → Class → Type 0
IsOfClass c LineFeed = is_line_feed c ≡ true
IsOfClass c Space = (is_space c ≡ true) × (is_line_feed c ≡ false)
IsOfClass c Semicolon = is_semicolon c ≡ true
IsOfClass c Open = (c == 40) ≡ true
IsOfClass c Close = (c == 41) ≡ true
IsOfClass c OfWord = is_word_byte c ≡ true
IsOfClass c Bad = IsOther c
