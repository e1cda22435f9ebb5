-- Private: what the search rests on: that it steps from states of the task alone.
use Rattle.std.specs.Prelude.{ℕ, List, All}
use Rattle.task_core.specs.States.{IsWithin}
use Rattle.task_core.specs.declared.states.State.{State}

-- no state of the list has a true fluent from n on
abbrev pub AreWithin : ℕ → List State → Type 0
AreWithin n states = All (IsWithin n) states
