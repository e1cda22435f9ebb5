-- A run of `pulgazer`, as its caller sees it.
use Rattle.std.specs.Prelude.{◌≡◌, ◌⊎◌, ◌≤◌, ◌==◌, ℕ, ⊤, if◌then◌else◌}
use Rattle.plan_io.specs.Fetches.{FetchesNothing}
use Rattle.plan_io.specs.Held.{Held}
use Rattle.answer_help.specs.Helped.{IsHelpFor, IsHelpedDelivery}
use Rattle.check_command.specs.CheckCommand.{FetchesToCheck}
use Rattle.command_base.specs.Answers.{Answer, no_memory, refused, write_fault_status}
use Rattle.command_base.specs.Delivery.{IsUntouched, Seen, Takes, TakesPart}
use Rattle.command_base.specs.Faults.{IsQuietAt}
use Rattle.command_base.specs.Fetching.{FetchesBoth}
use Rattle.command_base.specs.Frame.{FailedIn, Run}
use Rattle.command_base.specs.Words.{Bytes}
use Rattle.control_command.specs.Answers.{IsRequestAnswer}
use Rattle.control_command.specs.Words.{domain_of, problem_of}
use Rattle.draw_command.specs.Fetching.{FetchesToPicture}
use Rattle.draw_command.specs.Pictures.{IsPictureAnswer}
use Rattle.explain_command.specs.Explained.{IsExplainAnswer}
use Rattle.lint_command.specs.Mistakes.{IsMistakesAnswer}
use Rattle.replay_command.specs.RunFetches.{FetchesToReplay}
use Rattle.trace_command.specs.Told.{IsToldAnswer}
use Rattle.why_command.specs.Whys.{IsWhyAnswer}
use Rattle.pulgazer_top.specs.Allowed.{IsAllowed}
use Rattle.pulgazer_top.specs.Asked.{Asked, Request, asks, control, draw, fails, helps, judge, lint}
use Rattle.pulgazer_top.specs.Asked.{trace, why}
use Rattle.pulgazer_top.specs.Help.{help_text, mistake_text}
use Rattle.pulgazer_top.specs.Requests.{request_of}

-- the answer to what is asked for
abbrev pub IsAnswer : (Bytes → Held) → (Bytes → Type 0) → Asked → Answer → Type 0
IsAnswer held failed (control asked) = IsRequestAnswer held failed asked
IsAnswer held failed (judge asked) = IsExplainAnswer held failed asked
IsAnswer held failed (why asked) = IsWhyAnswer held failed asked
IsAnswer held failed (lint asked) = IsMistakesAnswer held failed asked
IsAnswer held failed (trace asked) = IsToldAnswer held failed asked
IsAnswer held failed (draw asked) = IsPictureAnswer held failed asked

-- the fetches for it: the files in their order, each once, up to the one that decided the answer
abbrev pub FetchesFor : {S : Type 0} → (Bytes → Held) → (Bytes → Type 0)
    → (S → Bytes → S → Type 0) → Asked → Answer → S → S → Type 0
FetchesFor held failed fetched (control asked) answer before after =
    FetchesBoth held fetched (domain_of asked) (problem_of asked) FetchesNothing before after
FetchesFor held failed fetched (judge asked) answer before after =
    FetchesToCheck held failed fetched asked.check answer before after
FetchesFor held failed fetched (why asked) answer before after =
    FetchesBoth held fetched asked.domain asked.problem FetchesNothing before after
FetchesFor held failed fetched (lint asked) answer before after =
    FetchesBoth held fetched asked.names.domain asked.names.problem FetchesNothing before after
FetchesFor held failed fetched (trace asked) answer before after =
    FetchesToReplay held failed fetched asked answer before after
FetchesFor held failed fetched (draw asked) answer before after =
    FetchesToPicture held failed fetched asked answer before after

-- the exit status of an answer: a run that is refused has the status of `mbp replay`
abbrev pub exit_status : Asked → ℕ → ℕ
exit_status (control asked) status = status
exit_status (judge asked) status = status
exit_status (why asked) status = status
exit_status (lint asked) status = status
exit_status (trace asked) status = if status == 1 then 9 else status
exit_status (draw asked) status = status

-- an answer was given that has its cause, or want of memory, which has no further cause. It was delivered,
-- with help below a fault of a file. The files were fetched as they must be. The shelf's count of faults is
-- as it was, but at the answers that may have had one; it never falls, and what is held stays
pub record HasAnswered {S : Type 0} (held : S → Bytes → Held) (faults : S → ℕ)
    (fetched : S → Bytes → S → Type 0) (asked : Asked) (run : Run S ⊤) : Type 0 where
  pub allowed : IsAllowed asked
  pub answer : Answer
  pub help : Bytes
  pub cause : (answer ≡ refused no_memory)
      ⊎ IsAnswer (held run.shelf) (FailedIn faults fetched run) asked answer
  pub helps : IsHelpFor (held run.shelf) answer help
  pub status : ℕ
  pub delivered : IsHelpedDelivery help answer run.out run.out_after run.err run.err_after status
  pub exits : run.status ≡ exit_status asked status
  pub fetches : FetchesFor (held run.shelf) (FailedIn faults fetched run) fetched asked answer
      run.shelf run.shelf_after
  pub quiet : IsQuietAt answer (faults run.shelf) (faults run.shelf_after)
  pub kept : (file : Bytes) → held run.shelf_after file ≡ held run.shelf file
  pub later : faults run.shelf ≤ faults run.shelf_after

-- the text was written, and the status is this one; or only a part was, and the status is that of a write
-- fault
abbrev pub IsWritten : Bytes → ℕ → Seen → Seen → ℕ → Type 0
IsWritten text good before after status =
    ((status ≡ good) × Takes text before after)
    ⊎ ((status ≡ write_fault_status) × TakesPart text before after)

-- what is asked for was answered; or the help that is wanted is on standard output, or what is wrong with
-- the words on standard error, and no file was fetched
abbrev pub HasServed : {S : Type 0} → (S → Bytes → Held) → (S → ℕ) → (S → Bytes → S → Type 0)
    → Request → Run S ⊤ → Type 0
HasServed held faults fetched (asks asked) run = HasAnswered held faults fetched asked run
HasServed held faults fetched (helps sub) run =
    (run.shelf_after ≡ run.shelf) × IsUntouched run.err run.err_after
    × IsWritten (help_text sub) 0 run.out run.out_after run.status
HasServed held faults fetched (fails sub found) run =
    (run.shelf_after ≡ run.shelf) × IsUntouched run.out run.out_after
    × IsWritten (mistake_text sub found) 2 run.err run.err_after run.status

-- what the words say was served
abbrev pub HasRun : {S : Type 0} → (S → Bytes → Held) → (S → ℕ) → (S → Bytes → S → Type 0)
    → Run S ⊤ → Type 0
HasRun held faults fetched run = HasServed held faults fetched (request_of run.words) run
