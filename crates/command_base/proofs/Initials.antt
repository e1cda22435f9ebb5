-- Whether there is an initial state: the answer where there is none, or what follows.
use Rattle.std.proofs.Common.{◌≡◌, ◌≢◌, true, List, [], refl, sym, ◌∙◌, inl, inr}
use Rattle.task_core.specs.Vectors.{Vector}
use Rattle.command_base.specs.Answers.{Answer, Refusal, is_shown}
use Rattle.command_base.specs.InitialStates.{InitialThen}
use Rattle.command_base.proofs.Deciding.{Decides}
use Rattle.command_base.proofs.PddlDecides.{not_refused}

-- it decides the answer, if what follows does
pub initial_decides : (empty : Refusal) (states : List Vector) (Then : Answer → Type 0) → Decides Then Then
    → Decides (InitialThen empty states Then) (InitialThen empty states Then)
initial_decides empty states Then next a b (inl (none, is)) (inl (none', is')) = is ∙ sym is'
initial_decides empty states Then next a b (inl (none, is)) (inr (some, then)) = absurd (some none)
initial_decides empty states Then next a b (inr (some, then)) (inl (none, is)) = absurd (some none)
initial_decides empty states Then next a b (inr (some, then)) (inr (some', then')) = next a b then then'

-- the same from what follows, of states that are equal
pub initial_over : (empty : Refusal) (states states' : List Vector) (P Q : Answer → Type 0) (a : Answer) → states ≡ states' → (P a → Q a)
    → InitialThen empty states P a → InitialThen empty states' Q a
initial_over empty states states' P Q a same f (inl (none, is)) = inl (sym same ∙ none, is)
initial_over empty states states' P Q a same f (inr (some, then)) = inr (λ none. some (same ∙ none), f then)

pub initial_map : (empty : Refusal) (states : List Vector) (P Q : Answer → Type 0) (a : Answer) → (P a → Q a)
    → InitialThen empty states P a → InitialThen empty states Q a
initial_map empty states P Q a f then = initial_over empty states states P Q a refl f then

-- what is shown comes of an initial state
pub shown_initial : (empty : Refusal) (states : List Vector) (Then : Answer → Type 0) (a : Answer) → is_shown a ≡ true
    → InitialThen empty states Then a → Then a
shown_initial empty states Then a shown (inl (none, is)) = absurd (not_refused empty a is shown)
shown_initial empty states Then a shown (inr (some, then)) = then

-- where there is one, the answer is what follows
pub with_initial : (empty : Refusal) (states : List Vector) (Then : Answer → Type 0) (a : Answer) → states ≢ []
    → InitialThen empty states Then a → Then a
with_initial empty states Then a some (inl (none, is)) = absurd (some none)
with_initial empty states Then a some (inr (some', then)) = then
