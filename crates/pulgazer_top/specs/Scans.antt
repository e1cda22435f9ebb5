-- What the words after a subcommand give: operands, and options with their values. Options stand anywhere;
-- a value follows as `--nodes 5` or `--nodes=5`; after `--` all words are operands.
use Rattle.std.specs.Prelude.{ℕ, ◌&&◌, ◌||◌, ◌==◌, not, Bool, if◌then◌else◌, List, [], ◌∷◌, ◌++◌, length}
use Rattle.std.specs.Prelude.{Option, Some, None, codes, is_some, nat_eq, nat_lt}
use Rattle.std.specs.List.{starts_with, before_first, after_first, position_or_len}
use Rattle.std.specs.Str.{bytes_eq}
use Rattle.command_base.specs.Words.{Bytes}
use Rattle.pulgazer_top.specs.Mistakes.{Mistake, mistake}
use Rattle.pulgazer_top.specs.Table.{option_in, value_name}
use Rattle.pulgazer_top.specs.declared.mistakes.Why.TheVariants.{NeedlessValue, Twice}
use Rattle.pulgazer_top.specs.declared.mistakes.Why.TheVariants.{UnknownOption}
use Rattle.pulgazer_top.specs.declared.table.CommandOption.{CommandOption}

-- an option that was said, and its value; an option without a value has the empty one
pub record Said : Type 0 where
  pub option : Bytes
  pub value : Bytes

pub record Given : Type 0 where
  pub operands : List Bytes
  pub options : List Said

abbrev pub nothing_given : Given
nothing_given = record { operands = []; options = [] }

-- options may follow; the next word is this option's value; all words that follow are operands; help is
-- asked for; a word is wrong
pub data Scan : Type 0 where
  reading : Given → Scan
  awaiting : Given → Bytes → Scan
  closed : Given → Scan
  helping : Scan
  mistaken : Mistake → Scan

-- the value that the option of this name has
abbrev pub value_of : List Said → Bytes → Option Bytes
value_of [] option = None
value_of (said ∷ more) option =
    if bytes_eq said.option option then Some said.value else value_of more option

-- standard input, as a file's name
abbrev pub input_word : Bytes
input_word = codes "-"

-- the file's name that a word stands for
abbrev pub as_file : Bytes → Bytes
as_file word = if bytes_eq word input_word then codes "/dev/stdin" else word

abbrev pub is_help : Bytes → Bool
is_help word = bytes_eq word (codes "--help") || bytes_eq word (codes "-h")

-- a word that begins with a hyphen is an option, but for the hyphen alone
abbrev pub is_option : Bytes → Bool
is_option word = starts_with nat_eq word (codes "-") && not (bytes_eq word input_word)

abbrev pub with_operand : Given → Bytes → Given
with_operand given word =
    record { operands = given.operands ++ as_file word ∷ []; options = given.options }

abbrev pub with_option : Given → Bytes → Bytes → Given
with_option given option value = record {
  operands = given.operands;
  options = given.options ++ record { option = option; value = value } ∷ [];
}

-- what follows an option that takes a value, and one that takes none, where a value was joined to it by
-- `=` or not
abbrev pub valued : Given → Bytes → Option Bytes → Scan
valued given name None = awaiting given name
valued given name (Some value) = reading (with_option given name value)

abbrev pub plain : Given → Bytes → Option Bytes → Scan
plain given name None = reading (with_option given name [])
plain given name (Some value) = mistaken (mistake name NeedlessValue)

abbrev pub takes_no_value : CommandOption → Bool
takes_no_value option = bytes_eq (value_name option) []

-- what follows a known option
abbrev pub known : Given → CommandOption → Bytes → Option Bytes → Scan
known given option name joined =
    if is_some (value_of given.options name) then mistaken (mistake name Twice)
    else if takes_no_value option then plain given name joined
    else valued given name joined

abbrev pub after_option : Given → Option CommandOption → Bytes → Option Bytes → Scan
after_option given None name joined = mistaken (mistake name UnknownOption)
after_option given (Some option) name joined = known given option name joined

-- a word that joins a value to an option has an equals sign
abbrev pub is_equals : ℕ → Bool
is_equals byte = byte == 61

abbrev pub has_value : Bytes → Bool
has_value word = nat_lt (position_or_len is_equals word) (length word)

-- what follows a word that is an option: its name, and the value that is joined to it
abbrev pub named_option : List CommandOption → Given → Bytes → Option Bytes → Scan
named_option options given name joined = after_option given (option_in options name) name joined

abbrev pub option_said : List CommandOption → Given → Bytes → Scan
option_said options given word =
    if has_value word then
    named_option options given (before_first is_equals word) (Some (after_first is_equals word))
    else named_option options given word None

-- what follows a word where options may stand
abbrev pub read_word : List CommandOption → Given → Bytes → Scan
read_word options given word =
    if bytes_eq word (codes "--") then closed given
    else if is_help word then helping
    else if is_option word then option_said options given word
    else reading (with_operand given word)

abbrev pub step : List CommandOption → Scan → Bytes → Scan
step options (reading given) word = read_word options given word
step options (awaiting given option) word = reading (with_option given option word)
step options (closed given) word = closed (with_operand given word)
step options helping word = helping
step options (mistaken found) word = mistaken found

-- the words of a subcommand that takes these options, one after another
abbrev pub scan_from : List CommandOption → Scan → List Bytes → Scan
scan_from options scan [] = scan
scan_from options scan (word ∷ words) = scan_from options (step options scan word) words
