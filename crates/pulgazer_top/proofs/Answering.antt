-- From the answer that was found to the one that was given.
use Rattle.std.proofs.Common.{◌≡◌, ◌≤◌, ◌⊎◌, ℕ, [], inl, inr, refl, sym, subst}
use Rattle.std.specs.Prelude.{⊤}
use Rattle.plan_io.specs.Fetches.{FailedLast}
use Rattle.plan_io.specs.Held.{Held}
use Rattle.command_base.specs.Answers.{Answer, no_memory, refused}
use Rattle.command_base.specs.Delivery.{Seen}
use Rattle.command_base.specs.Frame.{FailedIn, Run}
use Rattle.command_base.specs.Shelves.{KeepsShelf}
use Rattle.command_base.specs.Words.{Bytes}
use Rattle.command_base.proofs.Frames.{IsGivenFor, given_fetched, given_quiet}
use Rattle.answer_help.specs.Helped.{IsHelpFor, IsHelpedDelivery}
use Rattle.answer_help.specs.Keeping.{AreToldAs, KeepsAfter, faults_by, held_by, kept_in}
use Rattle.answer_help.specs.declared.keeping.KeepingShelf.{KeepingShelf}
use Rattle.answer_help.proofs.Deliveries.{help_as}
use Rattle.answer_help.proofs.Told.{IsTold, told_fetch}
use Rattle.pulgazer_top.specs.Allowed.{IsAllowed}
use Rattle.pulgazer_top.specs.Asked.{Asked}
use Rattle.pulgazer_top.specs.Runs.{FetchesFor, HasAnswered, IsAnswer, exit_status}
use Rattle.pulgazer_top.proofs.FetchedFiles.{fetched_for_memory, over_fetched}

given_for : (IsAnswerOf : Answer → Type 0) (found given : Answer) → (found ≡ refused no_memory) ⊎ IsAnswerOf found → IsGivenFor found given → (given ≡ refused no_memory) ⊎ IsAnswerOf given
given_for IsAnswerOf found given cause (inl is) = subst (λ (a : Answer). (a ≡ refused no_memory) ⊎ IsAnswerOf a) (sym is) cause
given_for IsAnswerOf found given cause (inr (is, said)) = inl is

pub answered_run : {S : Type 0} (held : S → Bytes → Held) (faults : S → ℕ) (fetched : S → Bytes → S → Type 0) (asked : Asked) (run : Run (KeepingShelf S) ⊤) (found : Answer)
    → kept_in run.shelf ≡ [] → IsAllowed asked
    → (found ≡ refused no_memory) ⊎ IsAnswer (held_by held run.shelf) (FailedIn (faults_by faults) (KeepsAfter held fetched) run) asked found
    → FetchesFor (held_by held run.shelf) (FailedIn (faults_by faults) (KeepsAfter held fetched) run) (KeepsAfter held fetched) asked found run.shelf run.shelf_after
    → KeepsShelf (held_by held) (faults_by faults) found run.shelf run.shelf_after
    → (status : ℕ) → run.status ≡ exit_status asked status
    → (IsTold held run.shelf_after → (given : Answer) × (help : Bytes) × IsGivenFor found given × IsHelpFor (held_by held run.shelf_after) given help
    × IsHelpedDelivery help given run.out run.out_after run.err run.err_after status)
    → HasAnswered (held_by held) (faults_by faults) (KeepsAfter held fetched) asked run
answered_run {S} held faults fetched asked run found none allowed cause fetches shelf status exits deliver =
    let failed = FailedIn (faults_by faults) (KeepsAfter held fetched) run in
    let begun : IsTold held run.shelf = subst (AreToldAs (held_by held run.shelf)) (sym none) tt in
    let told = over_fetched (IsTold held) (held_by held run.shelf) failed (KeepsAfter held fetched) (told_fetch held fetched) asked found run.shelf run.shelf_after fetches begun in
    let given = deliver told in record {
      allowed = allowed;
      answer = given.0;
      help = given.1;
      cause = given_for (IsAnswer (held_by held run.shelf) failed asked) found given.0 cause given.2;
      helps = help_as (held_by held run.shelf) (held_by held run.shelf_after) given.0 given.1 shelf.kept given.3;
      status = status;
      delivered = given.4;
      exits = exits;
      fetches = given_fetched (FetchesFor (held_by held run.shelf) failed (KeepsAfter held fetched) asked) run.shelf run.shelf_after found given.0
          (fetched_for_memory (held_by held run.shelf) failed (KeepsAfter held fetched) asked found run.shelf run.shelf_after) fetches given.2;
      quiet = given_quiet (faults_by faults run.shelf) (faults_by faults run.shelf_after) found given.0 shelf.quiet_at given.2;
      kept = shelf.kept;
      later = shelf.later;
    }
