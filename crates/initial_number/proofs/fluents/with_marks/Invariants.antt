-- The fluents that the alternatives so far name are marked, and those of before.
use Rattle.std.proofs.Common.{◌≡◌, ℕ, ◌||◌, take}
use Rattle.task_core.specs.Initial.{entry_of}
use Rattle.task_core.specs.States.{truth}
use Rattle.initial_number.specs.Fluents.{entry_names}
use Rattle.initial_number.proofs.fluents.with_marks.Given as goal

abbrev pub invariant-loop-alternative : goal.invariant-loop-alternative
invariant-loop-alternative l = (f : ℕ) → truth l.marks f ≡ (entry_names f (take l.alternative-index (entry_of l.entry)) || truth l.fn.marks f)
