-- What a command, and a step of one that reads a file, leave of the shelf. `held` and `faults` are
-- what the shelf tells: of each file, and the count of its faults.
use Rattle.std.specs.Prelude.{◌≡◌, ◌≤◌, ℕ, IfErr, OnOk, Result}
use Rattle.plan_io.specs.Held.{Held}
use Rattle.command_base.specs.Answers.{Answer, refused}
use Rattle.command_base.specs.Faults.{IsQuietAt}
use Rattle.command_base.specs.Values.{refusal_of}
use Rattle.command_base.specs.Words.{Bytes}
use Rattle.command_base.specs.declared.answers.Refusal.{Refusal as CodeRefusal}

-- between these two shelves a command gave this answer
pub record KeepsShelf {S : Type 0} (held : S → Bytes → Held) (faults : S → ℕ) (answer : Answer)
    (before after : S) : Type 0 where
  -- the count of faults is as it was, but at the answers that may have had one
  pub quiet_at : IsQuietAt answer (faults before) (faults after)
  -- what is told of each file stays
  pub kept : (file : Bytes) → held after file ≡ held before file
  -- the count of faults never falls
  pub later : faults before ≤ faults after

-- between these two shelves a file was read, or refused
pub record ReadsShelf {S A : Type 0} (held : S → Bytes → Held) (faults : S → ℕ)
    (result : Result A CodeRefusal) (before after : S) : Type 0 where
  -- a file that was read had no fault
  pub quiet : OnOk result (faults after ≡ faults before)
  -- at a refusal the count of faults is as it was, but at those that may have had one
  pub quiet_at : IfErr result
      (λ refusal. IsQuietAt (refused (refusal_of refusal)) (faults before) (faults after))
  -- what is told of each file stays
  pub kept : (file : Bytes) → held after file ≡ held before file
  -- the count of faults never falls
  pub later : faults before ≤ faults after
