-- Numbers in texts.
use Rattle.std.specs.Prelude.{ℕ, nat_le, Bool, ◌&&◌, if◌then◌else◌, List, length, Option, Some}
use Rattle.std.specs.Prelude.{None}
use Rattle.std.specs.List.{list_all}
use Rattle.std.specs.Char.{is_ascii_digit}
use Rattle.std.specs.Str.Parse.{digits_value}

-- a numeral is a word of one to nine decimal digits; it may begin with zeros
abbrev pub is_numeral : List ℕ → Bool
is_numeral text = nat_le 1 (length text) && nat_le (length text) 9 && list_all is_ascii_digit text

-- the number that a numeral writes
abbrev pub numeral : List ℕ → Option ℕ
numeral text = if is_numeral text then Some (digits_value 10 text) else None
