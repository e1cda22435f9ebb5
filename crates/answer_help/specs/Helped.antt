-- What is printed below the line of a refusal, and what is written of an answer with that.
use Rattle.std.specs.Prelude.{◌≡◌, ◌⊎◌, ℕ, [], ◌++◌, Bool, true, false}
use Rattle.plan_io.specs.Held.{Held, Gives}
use Rattle.command_base.specs.Answers.{Answer, affirmed, denied, refused, Refusal, no_command}
use Rattle.command_base.specs.Answers.{text_fault, over_limit, read_fault, no_memory, full}
use Rattle.command_base.specs.Answers.{stray_outcome, unexecutable, status_of, text_of, is_shown}
use Rattle.command_base.specs.Answers.{write_fault_status}
use Rattle.command_base.specs.Delivery.{CutOutput, IsUntouched, Seen, Showed, Takes, TakesPart}
use Rattle.command_base.specs.Words.{Bytes}
use Rattle.answer_help.specs.FaultHelp.{fault_help}

-- the help for a refusal: for a fault of a file, where it stands in the file's bytes, and what it means;
-- otherwise nothing
abbrev pub IsRefusalHelp : (Bytes → Held) → Refusal → Bytes → Type 0
IsRefusalHelp held no_command help = help ≡ []
IsRefusalHelp held (text_fault name fault) help =
    (bytes : Bytes) × Gives (held name) bytes × (help ≡ fault_help bytes fault)
IsRefusalHelp held (over_limit name) help = help ≡ []
IsRefusalHelp held (read_fault name) help = help ≡ []
IsRefusalHelp held no_memory help = help ≡ []
IsRefusalHelp held (full nodes) help = help ≡ []
IsRefusalHelp held (stray_outcome step word outcomes) help = help ≡ []
IsRefusalHelp held (unexecutable step) help = help ≡ []

abbrev pub IsHelpFor : (Bytes → Held) → Answer → Bytes → Type 0
IsHelpFor held (affirmed text) help = help ≡ []
IsHelpFor held (denied text) help = help ≡ []
IsHelpFor held (refused refusal) help = IsRefusalHelp held refusal help

-- Private: the whole text was written, or only a part of it
abbrev pub IsPut : Bytes → Seen → Seen → Bool → Type 0
IsPut text before after true = Takes text before after
IsPut text before after false = TakesPart text before after

-- the line of the answer and the help below it are on standard error, and nothing on standard output
pub record RefusedWith (help : Bytes) (answer : Answer) (out out' err err' : Seen) : Type 0 where
  pub unshown : is_shown answer ≡ false
  pub output : IsUntouched out out'
  pub errors : Takes (text_of answer ++ help) err err'

-- standard error took only a part of that, and nothing is on standard output
pub record CutErrorsWith (help : Bytes) (answer : Answer) (out out' err err' : Seen) : Type 0 where
  pub unshown : is_shown answer ≡ false
  pub output : IsUntouched out out'
  pub errors : TakesPart (text_of answer ++ help) err err'

-- what became of the answer and the help for it, and the status that comes of it
abbrev pub IsHelpedDelivery : Bytes → Answer → Seen → Seen → Seen → Seen → ℕ → Type 0
IsHelpedDelivery help answer out out' err err' status =
    ((status ≡ status_of answer)
    × (Showed answer out out' err err' ⊎ RefusedWith help answer out out' err err'))
    ⊎ ((status ≡ write_fault_status)
    × (CutOutput answer out out' err err' ⊎ CutErrorsWith help answer out out' err err'))
