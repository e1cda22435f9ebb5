-- What is written of an answer, and the status that comes of it. Of a sink we know its count of
-- faults and, where it tells, the bytes written to it.
use Rattle.std.specs.Prelude.{◌≡◌, ℕ, ◌<◌, ◌⊎◌, true, false, Option, List, length, take, codes}
use Rattle.std.specs.Prelude.{◌++◌}
use Rattle.std.specs.Io.KnownBytes.{append_known}
use Rattle.plan_io.specs.Counts.{Rose}
use Rattle.plan_rules.specs.Texts.{line_feed}
use Rattle.command_base.specs.Answers.{Answer, status_of, text_of, is_shown, write_fault_status}
use Rattle.command_base.specs.Words.{Bytes}

-- a sink at one moment: the bytes written so far, where it tells them, and its count of faults
pub record Seen : Type 0 where
  pub written : Option (List ℕ)
  pub faults : ℕ

abbrev pub seen : Option (List ℕ) → ℕ → Seen
seen written faults = record { written = written; faults = faults }

-- nothing was written, and no fault came
abbrev pub IsUntouched : Seen → Seen → Type 0
IsUntouched before after = after ≡ before

-- the whole text was written, and no fault came
pub record Takes (text : Bytes) (before after : Seen) : Type 0 where
  pub written : after.written ≡ append_known before.written text
  pub quiet : after.faults ≡ before.faults

-- a fault came, and only a first part of the text was written
pub record TakesPart (text : Bytes) (before after : Seen) : Type 0 where
  pub fault : Rose before.faults after.faults
  pub taken : ℕ
  pub short : taken < length text
  pub written : after.written ≡ append_known before.written (take taken text)

-- the line about a write fault
abbrev pub write_fault_line : Bytes
write_fault_line = codes "write fault" ++ line_feed

-- the answer is on standard output, and nothing on standard error
pub record Showed (answer : Answer) (out out' err err' : Seen) : Type 0 where
  pub shown : is_shown answer ≡ true
  pub output : Takes (text_of answer) out out'
  pub errors : IsUntouched err err'

-- the line of the answer is on standard error, and nothing on standard output
pub record Refused (answer : Answer) (out out' err err' : Seen) : Type 0 where
  pub unshown : is_shown answer ≡ false
  pub output : IsUntouched out out'
  pub errors : Takes (text_of answer) err err'

-- standard output took only a part, and the line about that went to standard error, as far as it
-- took it
pub record CutOutput (answer : Answer) (out out' err err' : Seen) : Type 0 where
  pub shown : is_shown answer ≡ true
  pub output : TakesPart (text_of answer) out out'
  pub errors : Takes write_fault_line err err' ⊎ TakesPart write_fault_line err err'

-- standard error took only a part of the answer's line, and nothing is on standard output
pub record CutErrors (answer : Answer) (out out' err err' : Seen) : Type 0 where
  pub unshown : is_shown answer ≡ false
  pub output : IsUntouched out out'
  pub errors : TakesPart (text_of answer) err err'

-- the whole answer was written where it belongs, and nothing else
abbrev pub IsWhole : Answer → Seen → Seen → Seen → Seen → Type 0
IsWhole answer out out' err err' =
    Showed answer out out' err err' ⊎ Refused answer out out' err err'

-- a sink had a fault, and only a part of the answer was written
abbrev pub IsCut : Answer → Seen → Seen → Seen → Seen → Type 0
IsCut answer out out' err err' =
    CutOutput answer out out' err err' ⊎ CutErrors answer out out' err err'

-- what became of the answer, and the status that comes of it
abbrev pub IsDelivered : Answer → Seen → Seen → Seen → Seen → ℕ → Type 0
IsDelivered answer out out' err err' status =
    ((status ≡ status_of answer) × IsWhole answer out out' err err')
    ⊎ ((status ≡ write_fault_status) × IsCut answer out out' err err')
