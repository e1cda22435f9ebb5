-- What a Stray says, over n fluents.
use Rattle.std.specs.Prelude.{ℕ, Bool, List, [], ◌∷◌, None, Option, Some}
use Rattle.std.specs.List.{All}
use Rattle.task_core.specs.States.{IsWithin, vector}
use Rattle.task_core.specs.contracts.states.StatePartialEq.TheImpl.{eq-value}
use Rattle.task_core.specs.declared.states.State.{State}
use Rattle.dead_ends.specs.Strays.{PlainStray}
use Rattle.dead_ends.specs.declared.strays.Stray.{Stray}

abbrev pub stray_value : ℕ → Stray → PlainStray
stray_value n stray =
    record { step = stray.step; outcome = stray.outcome; after = vector n stray.state }

-- no fluent from n on is true in any of the states
abbrev pub AreWithin : ℕ → List Stray → Type 0
AreWithin n = All (λ (stray : Stray). IsWithin n stray.state)

-- Private: one, or none
abbrev pub listed_if : Option Stray → List Stray
listed_if None = []
listed_if (Some stray) = stray ∷ []

-- Private: whether two states are the same, as `==` says
abbrev pub same_state : State → State → Bool
same_state = eq-value.it
