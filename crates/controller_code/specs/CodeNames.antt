-- The name of a program, as C, Rust and Python take it.
use Rattle.std.specs.Prelude.{ℕ, ◌==◌, Bool, ◌&&◌, ◌||◌, List, nat_le, slice_index_or}
use Rattle.std.specs.Char.{is_ascii_digit}
use Rattle.std.specs.List.{list_all}

-- a letter of ASCII
abbrev pub is_letter : ℕ → Bool
is_letter byte = (nat_le 65 byte && nat_le byte 90) || (nat_le 97 byte && nat_le byte 122)

-- a letter, a digit or `_`
abbrev pub is_code_byte : ℕ → Bool
is_code_byte byte = is_letter byte || is_ascii_digit byte || (byte == 95)

-- letters, digits and `_`, a letter first
abbrev pub is_code_name : List ℕ → Bool
is_code_name name = is_letter (slice_index_or name 0 0) && list_all is_code_byte name
