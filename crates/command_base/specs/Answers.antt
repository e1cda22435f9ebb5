-- The answers of the program, each with its status and its text.
use Rattle.std.specs.Prelude.{ℕ, Bool, true, false, [], ◌++◌, codes, decimal}
use Rattle.std.specs.Option.{option_map_or}
use Rattle.plan_rules.specs.Texts.{line_feed}
use Rattle.sexpr_text.specs.Kinds.{code_of, kind_name, word_of}
use Rattle.sexpr_text.specs.declared.faults.InputFault.{InputFault}
use Rattle.command_base.specs.Words.{Bytes}

-- why a command, or what is no command, is refused
pub data Refusal : Type 0 where
  -- the words are none of the commands
  no_command : Refusal
  -- the text of the file of this name has this fault
  text_fault : Bytes → InputFault → Refusal
  -- the limit of this name is passed
  over_limit : Bytes → Refusal
  -- the file of this name can't be read
  read_fault : Bytes → Refusal
  no_memory : Refusal
  -- the table of diagram nodes is full: it may hold so many
  full : ℕ → Refusal
  -- the record's number at this step is none of the action's so many outcomes
  stray_outcome : (step word outcomes : ℕ) → Refusal
  -- the plan's action at this step can't be executed
  unexecutable : (step : ℕ) → Refusal

-- what a command shows, that says yes or no; or a refusal
pub data Answer : Type 0 where
  affirmed : Bytes → Answer
  denied : Bytes → Answer
  refused : Refusal → Answer

abbrev pub status_of_refusal : Refusal → ℕ
status_of_refusal no_command = 2
status_of_refusal (text_fault file fault) = 3
status_of_refusal (over_limit name) = 4
status_of_refusal (read_fault file) = 6
status_of_refusal no_memory = 8
status_of_refusal (full nodes) = 5
status_of_refusal (stray_outcome step word outcomes) = 9
status_of_refusal (unexecutable step) = 9

-- the status where the text of an answer can't be written whole
abbrev pub write_fault_status : ℕ
write_fault_status = 7

-- the exit status, where the text is written whole
abbrev pub status_of : Answer → ℕ
status_of (affirmed text) = 0
status_of (denied text) = 1
status_of (refused refusal) = status_of_refusal refusal

-- the line of a fault, as slip-d:1:20: 13 LeftOut :functions; the word stands where the kind has
-- one
abbrev pub fault_line : Bytes → InputFault → Bytes
fault_line file fault =
    file ++ codes ":" ++ decimal fault.place.line ++ codes ":" ++ decimal fault.place.column
    ++ codes ": " ++ decimal (code_of fault.kind) ++ codes " " ++ kind_name fault.kind
    ++ option_map_or (λ word. codes " " ++ word) (word_of fault.kind) []

-- the one line of a refusal, without its end
abbrev pub line_of : Refusal → Bytes
line_of no_command = codes "mbp: the words are none of the command forms"
line_of (text_fault file fault) = fault_line file fault
line_of (over_limit name) = codes "limit " ++ name
line_of (read_fault file) = codes "read fault " ++ file
line_of no_memory = codes "no memory"
line_of (full nodes) = codes "full " ++ decimal nodes
line_of (stray_outcome step word outcomes) =
    codes "stray outcome step " ++ decimal step ++ codes " word " ++ decimal word
    ++ codes " outcomes "
    ++ decimal outcomes
line_of (unexecutable step) = codes "unexecutable step " ++ decimal step

-- what is written
abbrev pub text_of : Answer → Bytes
text_of (affirmed text) = text
text_of (denied text) = text
text_of (refused refusal) = line_of refusal ++ line_feed

-- whether the answer goes to standard output; every other goes to standard error
abbrev pub is_shown : Answer → Bool
is_shown (affirmed text) = true
is_shown (denied text) = true
is_shown (refused refusal) = false
