-- A run of a program: from the answer that was found to the one that was given.
use Rattle.std.proofs.Common.{◌≡◌, ◌≢◌, ◌≤◌, ◌⊎◌, ℕ, List, inl, inr, refl, subst, sym}
use Rattle.plan_io.specs.Held.{Held}
use Rattle.command_base.specs.Answers.{Answer, no_command, no_memory, refused}
use Rattle.command_base.specs.Delivery.{IsDelivered}
use Rattle.command_base.specs.Faults.{IsQuietAt}
use Rattle.command_base.specs.Frame.{HasCauseOf, IsRunOf, Run, SaysNone}
use Rattle.command_base.specs.Words.{Bytes}

-- an answer that is given for one that was found: the same, or want of memory
abbrev pub IsGivenFor : Answer → Answer → Type 0
IsGivenFor found given = (given ≡ found) ⊎ ((given ≡ refused no_memory) × (found ≢ refused no_command))

-- want of memory may come in place of an answer of a command
pub memory_instead : {C : Type 0} (Says : List Bytes → C → Type 0) (IsAnswer : C → Answer → Type 0) (words : List Bytes) (a : Answer)
    → a ≢ refused no_command → HasCauseOf Says IsAnswer words a → HasCauseOf Says IsAnswer words (refused no_memory)
memory_instead Says IsAnswer words a said (inl (nothing, is)) = absurd (said is)
memory_instead Says IsAnswer words a said (inr (command, says, why)) = inr (command, says, inl refl)

pub given_cause : {C : Type 0} (Says : List Bytes → C → Type 0) (IsAnswer : C → Answer → Type 0) (words : List Bytes) (found given : Answer)
    → HasCauseOf Says IsAnswer words found → IsGivenFor found given → HasCauseOf Says IsAnswer words given
given_cause Says IsAnswer words found given cause (inl is) = subst (HasCauseOf Says IsAnswer words) (sym is) cause
given_cause Says IsAnswer words found given cause (inr (is, said)) =
    subst (HasCauseOf Says IsAnswer words) (sym is) (memory_instead Says IsAnswer words found said cause)

pub given_quiet : (before after : ℕ) (found given : Answer) → IsQuietAt found before after → IsGivenFor found given → IsQuietAt given before after
given_quiet before after found given quiet (inl is) = subst (λ (a : Answer). IsQuietAt a before after) (sym is) quiet
given_quiet before after found given quiet (inr (is, said)) = subst (λ (a : Answer). IsQuietAt a before after) (sym is) (inr tt)

-- what was fetched for an answer was fetched for want of memory in its place
pub given_fetched : {S : Type 0} (Fetched : Answer → S → S → Type 0) (before after : S) (found given : Answer) → (Fetched found before after → Fetched (refused no_memory) before after)
    → Fetched found before after → IsGivenFor found given → Fetched given before after
given_fetched Fetched before after found given for_memory was (inl is) = subst (λ (a : Answer). Fetched a before after) (sym is) was
given_fetched Fetched before after found given for_memory was (inr (is, said)) = subst (λ (a : Answer). Fetched a before after) (sym is) (for_memory was)

-- what was found for the words, and what was given for it
pub is_run : {S X C : Type 0} (Says : List Bytes → C → Type 0) (IsAnswer : C → Answer → Type 0) (FetchesFiles : C → Answer → S → S → Type 0)
    (held : S → Bytes → Held) (faults : S → ℕ) (run : Run S X)
    → ((command : C) (a : Answer) → FetchesFiles command a run.shelf run.shelf_after → FetchesFiles command (refused no_memory) run.shelf run.shelf_after)
    → (found given : Answer) → HasCauseOf Says IsAnswer run.words found
    → ((command : C) → Says run.words command → FetchesFiles command found run.shelf run.shelf_after)
    → (SaysNone Says run.words → run.shelf_after ≡ run.shelf) → IsQuietAt found (faults run.shelf) (faults run.shelf_after)
    → ((file : Bytes) → held run.shelf_after file ≡ held run.shelf file) → faults run.shelf ≤ faults run.shelf_after
    → IsGivenFor found given → IsDelivered given run.out run.out_after run.err run.err_after run.status
    → IsRunOf Says IsAnswer FetchesFiles held faults run
is_run {S} {X} {C} Says IsAnswer FetchesFiles held faults run for_memory found given cause fetches unfetched quiet kept later same delivered = record {
  answer = given;
  cause = given_cause Says IsAnswer run.words found given cause same;
  delivered = delivered;
  fetches = λ command says. given_fetched (FetchesFiles command) run.shelf run.shelf_after found given (for_memory command found) (fetches command says) same;
  unfetched = unfetched;
  quiet = given_quiet (faults run.shelf) (faults run.shelf_after) found given quiet same;
  kept = kept;
  later = later;
}
