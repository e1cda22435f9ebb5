-- A run of a program, as its caller sees it, and that it has its cause: the frame of every program. A
-- program says which words say which command (`Says`), which answers each command has (`IsAnswer`), and
-- which files it fetches for an answer (`FetchesFiles`). `held`, `faults` and `fetched` are what the
-- shelf tells.
use Rattle.std.specs.Prelude.{◌≡◌, ◌≤◌, ◌⊎◌, ℕ, List}
use Rattle.plan_io.specs.Fetches.{FailedLast}
use Rattle.plan_io.specs.Held.{Held}
use Rattle.command_base.specs.Answers.{Answer, no_command, no_memory, refused}
use Rattle.command_base.specs.Delivery.{IsDelivered, Seen}
use Rattle.command_base.specs.Faults.{IsQuietAt}
use Rattle.command_base.specs.Words.{Bytes}

-- a run: its words; what else its caller hands in; the shelf and the two sinks before and after it;
-- and its status
pub record Run (S X : Type 0) : Type 0 where
  pub words : List Bytes
  pub handed : X
  pub shelf : S
  pub shelf_after : S
  pub out : Seen
  pub out_after : Seen
  pub err : Seen
  pub err_after : Seen
  pub status : ℕ

-- in a fetch of the file of this name, the last of the run, the count of faults rose
abbrev pub FailedIn : {S X : Type 0} → (S → ℕ) → (S → Bytes → S → Type 0) → Run S X → Bytes → Type 0
FailedIn {S} {X} faults fetched run = FailedLast fetched faults run.shelf run.shelf_after

-- the words say no command
abbrev pub SaysNone : {C : Type 0} → (List Bytes → C → Type 0) → List Bytes → Type 0
SaysNone {C} Says words = (command : C) → Says words command → ⊥

-- the cause of an answer: the words say no command; or they say one, and the answer is that
-- command's, or want of memory, which has no further cause
abbrev pub HasCauseOf : {C : Type 0} → (List Bytes → C → Type 0) → (C → Answer → Type 0) → List Bytes
    → Answer → Type 0
HasCauseOf {C} Says IsAnswer words answer =
    (SaysNone Says words × (answer ≡ refused no_command))
    ⊎ ((command : C) × Says words command × ((answer ≡ refused no_memory) ⊎ IsAnswer command answer))

-- an answer was given that has its cause, and was delivered. The files of the command were fetched as
-- `FetchesFiles` says, and none without a command. The shelf's count of faults is as it was, but at the
-- answers that may have had one; it never falls, and what is held stays
pub record IsRunOf {S X C : Type 0} (Says : List Bytes → C → Type 0) (IsAnswer : C → Answer → Type 0)
    (FetchesFiles : C → Answer → S → S → Type 0) (held : S → Bytes → Held) (faults : S → ℕ)
    (run : Run S X) : Type 0 where
  pub answer : Answer
  pub cause : HasCauseOf Says IsAnswer run.words answer
  pub delivered : IsDelivered answer run.out run.out_after run.err run.err_after run.status
  pub fetches : (command : C) → Says run.words command
      → FetchesFiles command answer run.shelf run.shelf_after
  pub unfetched : SaysNone Says run.words → run.shelf_after ≡ run.shelf
  pub quiet : IsQuietAt answer (faults run.shelf) (faults run.shelf_after)
  pub kept : (file : Bytes) → held run.shelf_after file ≡ held run.shelf file
  pub later : faults run.shelf ≤ faults run.shelf_after
