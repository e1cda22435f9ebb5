-- The fluents that the literals so far name are marked, and those of before.
use Rattle.std.proofs.Common.{◌≡◌, ℕ, ◌||◌, take}
use Rattle.task_core.specs.States.{truth}
use Rattle.initial_number.specs.Fluents.{lits_name}
use Rattle.initial_number.proofs.fluents.with_literal_marks.Given as goal

abbrev pub invariant-loop-lit : goal.invariant-loop-lit
invariant-loop-lit l = (f : ℕ) → truth l.marks f ≡ (lits_name f (take l.lit-index l.lits) || truth l.fn.marks f)
