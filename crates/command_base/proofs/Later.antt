-- What a shelf tells stays: what a later step of a command says of its file holds from the
-- command's start.
use Rattle.std.proofs.Common.{◌≡◌, ◌⊎◌, ℕ, List, [], ◌∷◌, inl, inr, refl, subst, ap, ◌∙◌}
use Rattle.plan_io.specs.Fetches.{FailedLast, Fetches}
use Rattle.plan_io.specs.Held.{Held}
use Rattle.task_core.specs.Names.{Name}
use Rattle.command_base.specs.Answers.{Answer, refused, Refusal, no_memory}
use Rattle.command_base.specs.Fetching.{HoldsSomePlan}
use Rattle.command_base.specs.Reading.{Holds, IsRefusedFile, ReadThen}
use Rattle.command_base.specs.Words.{Bytes}

-- shelves that tell the same
same_told : (held held' : Bytes → Held) → ((file : Bytes) → held' file ≡ held file) → held' ≡ held
same_told held held' same = λ i. λ file. same file i

-- the last fetch after a fetch that had no fault is the last of both
pub failed_over : {S : Type 0} (fetched : S → List ℕ → S → Type 0) (faults : S → ℕ) (before between after : S) (first name : List ℕ)
    → fetched before first between → faults between ≡ faults before → FailedLast fetched faults between after name → FailedLast fetched faults before after name
failed_over fetched faults before between after first name fetch quiet failed = record {
  earlier = first ∷ failed.earlier;
  between = failed.between;
  came = (between, fetch, failed.came);
  quiet = failed.quiet ∙ quiet;
  fetch = failed.fetch;
  rose = failed.rose;
}

pub holds_over : {X : Type 0} (held held' : Bytes → Held) (Spells : Bytes → X → Type 0) (name : Bytes) (tree : X)
    → ((file : Bytes) → held' file ≡ held file) → Holds held' Spells name tree → Holds held Spells name tree
holds_over held held' Spells name tree same holds = subst (λ h. Holds h Spells name tree) (same_told held held' same) holds

refused_over : (held : Bytes → Held) (failed failed' : Bytes → Type 0) (Wrong : Bytes → Bytes → Refusal → Type 0) (name : Bytes) (r : Refusal)
    → (failed' name → failed name) → IsRefusedFile held failed' Wrong name r → IsRefusedFile held failed Wrong name r
refused_over held failed failed' Wrong name r over (inl (is, inl missing)) = inl (is, inl missing)
refused_over held failed failed' Wrong name r over (inl (is, inr fault)) = inl (is, inr (over fault))
refused_over held failed failed' Wrong name r over (inr other) = inr other

-- a file that is refused later on
pub refused_later : {X : Type 0} (held held' : Bytes → Held) (failed failed' : Bytes → Type 0) (name : Bytes) (Spells : Bytes → X → Type 0) (Wrong : Bytes → Bytes → Refusal → Type 0)
    (Then : X → Answer → Type 0) (r : Refusal) → ((file : Bytes) → held' file ≡ held file) → (failed' name → failed name)
    → (r ≡ no_memory) ⊎ IsRefusedFile held' failed' Wrong name r → (refused r ≡ refused no_memory) ⊎ ReadThen held failed name Spells Wrong Then (refused r)
refused_later held held' failed failed' name Spells Wrong Then r same over (inl memory) = inl (ap refused memory)
refused_later held held' failed failed' name Spells Wrong Then r same over (inr why) =
    let here = subst (λ h. IsRefusedFile h failed' Wrong name r) (same_told held held' same) why in
    inr (inl (r, refl, refused_over held failed failed' Wrong name r over here))

-- an answer that comes after a file was read
pub next_answer : {X : Type 0} (held : Bytes → Held) (failed : Bytes → Type 0) (name : Bytes) (Spells : Bytes → X → Type 0) (Wrong : Bytes → Bytes → Refusal → Type 0)
    (Then : X → Answer → Type 0) (tree : X) (a : Answer) → Holds held Spells name tree → (a ≡ refused no_memory) ⊎ Then tree a
    → (a ≡ refused no_memory) ⊎ ReadThen held failed name Spells Wrong Then a
next_answer held failed name Spells Wrong Then tree a holds (inl memory) = inl memory
next_answer held failed name Spells Wrong Then tree a holds (inr then) = inr (inr (tree, holds, then))

-- what a later step says of reading a file holds from the command's start
pub read_over : {X : Type 0} (held held' : Bytes → Held) (failed failed' : Bytes → Type 0) (name : Bytes) (Spells : Bytes → X → Type 0) (Wrong : Bytes → Bytes → Refusal → Type 0)
    (Then : X → Answer → Type 0) (a : Answer) → ((file : Bytes) → held' file ≡ held file) → (failed' name → failed name)
    → ReadThen held' failed' name Spells Wrong Then a → ReadThen held failed name Spells Wrong Then a
read_over held held' failed failed' name Spells Wrong Then a same over (inl (r, is, why)) =
    inl (r, is, refused_over held failed failed' Wrong name r over (subst (λ h. IsRefusedFile h failed' Wrong name r) (same_told held held' same) why))
read_over held held' failed failed' name Spells Wrong Then a same over (inr (tree, holds, then)) =
    inr (tree, holds_over held held' Spells name tree same holds, then)

-- a plan over names that are equal
pub some_plan : (held : Bytes → Held) (fluents fluents' actions actions' : List Name) (name : Bytes) → fluents ≡ fluents' → actions ≡ actions'
    → HoldsSomePlan held fluents actions name → HoldsSomePlan held fluents' actions' name
some_plan held fluents fluents' actions actions' name f a h =
    subst (λ (ns : List Name). HoldsSomePlan held ns actions' name) f (subst (λ (ns : List Name). HoldsSomePlan held fluents ns name) a h)

-- and in a shelf that tells the same
pub some_plan_over : (held held' : Bytes → Held) (fluents actions : List Name) (name : Bytes) → ((file : Bytes) → held' file ≡ held file)
    → HoldsSomePlan held' fluents actions name → HoldsSomePlan held fluents actions name
some_plan_over held held' fluents actions name same h = subst (λ (now : Bytes → Held). HoldsSomePlan now fluents actions name) (same_told held held' same) h

-- the last fetch that failed after those of two files
pub failed_after_two : {S : Type 0} (fetched : S → List ℕ → S → Type 0) (faults : S → ℕ) (a b : List ℕ) (before between after : S) (name : List ℕ)
    → Fetches fetched (a ∷ b ∷ []) before between → faults between ≡ faults before → FailedLast fetched faults between after name
    → FailedLast fetched faults before after name
failed_after_two {S} fetched faults a b before between after name (x, first, (y, second, is)) quiet failed = record {
  earlier = a ∷ b ∷ failed.earlier;
  between = failed.between;
  came = (x, first, (y, second, subst (λ (s : S). Fetches fetched failed.earlier s failed.between) is failed.came));
  quiet = failed.quiet ∙ quiet;
  fetch = failed.fetch;
  rose = failed.rose;
}

-- a file that is refused at once
pub file_refused : {X : Type 0} (held : Bytes → Held) (failed : Bytes → Type 0) (name : Bytes) (Spells : Bytes → X → Type 0) (Wrong : Bytes → Bytes → Refusal → Type 0)
    (Then : X → Answer → Type 0) (r : Refusal) → (r ≡ no_memory) ⊎ IsRefusedFile held failed Wrong name r
    → (refused r ≡ refused no_memory) ⊎ ReadThen held failed name Spells Wrong Then (refused r)
file_refused held failed name Spells Wrong Then r (inl memory) = inl (ap refused memory)
file_refused held failed name Spells Wrong Then r (inr why) = inr (inl (r, refl, why))
