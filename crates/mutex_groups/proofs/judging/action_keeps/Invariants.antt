-- It is kept, whichever member so far is the one.
use Rattle.std.proofs.Common.{◌≡◌, ◌<◌, ℕ, true}
use Rattle.task_core.specs.States.{truth}
use Rattle.mutex_groups.specs.Cases.{KeepsAt}
use Rattle.mutex_groups.proofs.judging.action_keeps.Given as goal

abbrev pub invariant-loop-number : goal.invariant-loop-number
invariant-loop-number l = (f : ℕ) → f < l.number → truth l.members f ≡ true → KeepsAt (truth l.members) f l.action
