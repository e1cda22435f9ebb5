-- Faults of the shelf: when its count rose, and at which answers it may have risen.
use Rattle.std.specs.Prelude.{◌≡◌, ℕ, ◌⊎◌, ⊤}
use Rattle.command_base.specs.Answers.{Answer, affirmed, denied, refused, Refusal, no_command}
use Rattle.command_base.specs.Answers.{text_fault, over_limit, read_fault, no_memory, full}
use Rattle.command_base.specs.Answers.{stray_outcome, unexecutable}
use Rattle.plan_io.specs.Counts.{Rose}

-- the answers at which the shelf's count of faults may have risen: that a file can't be read, and
-- want of memory
abbrev pub IsFault : Refusal → Type 0
IsFault no_command = ⊥
IsFault (text_fault file fault) = ⊥
IsFault (over_limit name) = ⊥
IsFault (read_fault file) = ⊤
IsFault no_memory = ⊤
IsFault (full nodes) = ⊥
IsFault (stray_outcome step word outcomes) = ⊥
IsFault (unexecutable step) = ⊥

abbrev pub MayHaveFault : Answer → Type 0
MayHaveFault (affirmed text) = ⊥
MayHaveFault (denied text) = ⊥
MayHaveFault (refused refusal) = IsFault refusal

-- the shelf's count of faults is as it was, but at these answers
abbrev pub IsQuietAt : Answer → ℕ → ℕ → Type 0
IsQuietAt answer before after = (after ≡ before) ⊎ MayHaveFault answer

-- no fault came: the count of faults didn't rise
abbrev pub NoFault : ℕ → ℕ → Type 0
NoFault before now = Rose before now → ⊥
