-- The fluents so far are others exactly where they are no members.
use Rattle.std.proofs.Common.{◌≡◌, ◌<◌, ℕ, not}
use Rattle.task_core.specs.States.{truth}
use Rattle.mutex_groups.proofs.cases.others_of.Given as goal

abbrev pub invariant-loop-number : goal.invariant-loop-number
invariant-loop-number l = (f : ℕ) → f < l.number → truth l.others f ≡ not (truth l.members f)
