-- From an answer and its cause to the status that is due.
use Rattle.std.proofs.Common.{◌≡◌, ℕ, List, ◌⊎◌, inl, inr, ◌∙◌, ap}
use Rattle.plan_io.specs.Held.{Held}
use Rattle.command_base.specs.Answers.{Answer, status_of}
use Rattle.mbp_top.specs.Causes.{HasCause}
use Rattle.command_base.specs.Faults.{IsQuietAt, NoFault}
use Rattle.command_base.specs.Delivery.{Seen, IsDelivered}
use Rattle.drill_command.specs.DrillCommand.{MayDrillRunOut}
use Rattle.plan_command.specs.PlanCommand.{MayRunOut}
use Rattle.refute_command.specs.RefuteCommand.{MayRefuteRunOut}
use Rattle.replay_command.specs.ReplayCommand.{Tallies}
use Rattle.mbp_top.specs.Told.{AreFilesTold, IsDue, MayStandIn}
use Rattle.command_base.specs.Words.{Bytes, DrillWords, PlanWords, RefuteWords, SaysDrill, SaysPlan, SaysRefute}
use Rattle.mbp_top.proofs.ByCommand.{due_answer}
use Rattle.command_base.specs.OneReading.{OneReading}
use Rattle.command_base.proofs.Statuses.{undisturbed}

-- an answer that has its cause, and what became of it
pub record Done (held : Bytes → Held) (failed : Bytes → Type 0) (tallies : Tallies) (words : List Bytes) (before after : ℕ) (out out' err err' : Seen) (status : ℕ) (answer : Answer) : Type 0 where
  pub cause : HasCause held failed tallies words answer
  pub quiet : IsQuietAt answer before after
  pub delivered : IsDelivered answer out out' err err' status

-- the status where the table of nodes is full
abbrev pub IsFullStatus : (Bytes → Held) → List Bytes → ℕ → Type 0
IsFullStatus held words status =
    ((status ≡ 5) × (asked : PlanWords) × SaysPlan words asked × MayRunOut held asked)
    ⊎ ((status ≡ 5) × (asked : DrillWords) × SaysDrill words asked × MayDrillRunOut asked)
    ⊎ ((status ≡ 5) × (asked : RefuteWords) × SaysRefute words asked × MayRefuteRunOut held asked)

same_code : (held : Bytes → Held) (words : List Bytes) (a b : Answer) (status : ℕ) → (a ≡ b) ⊎ MayStandIn held words a → status ≡ status_of a
    → (status ≡ status_of b) ⊎ (status ≡ 8) ⊎ IsFullStatus held words status
same_code held words a b status (inl is) code = inl (code ∙ ap status_of is)
same_code held words a b status (inr (inl is)) code = inr (inl (code ∙ ap status_of is))
same_code held words a b status (inr (inr (inl (asked, says, may, is)))) code = inr (inr (inl (code ∙ ap status_of is, asked, says, may)))
same_code held words a b status (inr (inr (inr (inl (asked, says, may, is))))) code = inr (inr (inr (inl (code ∙ ap status_of is, asked, says, may))))
same_code held words a b status (inr (inr (inr (inr (asked, says, may, is))))) code = inr (inr (inr (inr (code ∙ ap status_of is, asked, says, may))))

-- the status is that of the answer that is due
pub due_status : OneReading → (held : Bytes → Held) (failed : Bytes → Type 0) (tallies : Tallies) (words : List Bytes) (before after : ℕ) (out out' err err' : Seen) (status : ℕ) (a b : Answer)
    → Done held failed tallies words before after out out' err err' status a → IsDue held tallies words b → AreFilesTold held words → ((file : Bytes) → failed file → ⊥)
    → NoFault out.faults out'.faults → NoFault err.faults err'.faults → (status ≡ status_of b) ⊎ (status ≡ 8) ⊎ IsFullStatus held words status
due_status once held failed tallies words before after out out' err err' status a b d due told quiet no_out no_err =
    same_code held words a b status (due_answer once held failed tallies words a b d.cause due told quiet) (undisturbed a out out' err err' status no_out no_err d.delivered)
