-- One is true after the literals, whichever member so far was.
use Rattle.std.proofs.Common.{◌≡◌, ◌<◌, ℕ, true}
use Rattle.task_core.specs.States.{truth}
use Rattle.mutex_groups.specs.Starts.{KeepsOne}
use Rattle.mutex_groups.proofs.starts.known_from_one.Given as goal

abbrev pub invariant-loop-number : goal.invariant-loop-number
invariant-loop-number l = (f : ℕ) → f < l.number → truth l.members f ≡ true → KeepsOne (truth l.members) f l.lits
