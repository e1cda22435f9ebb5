-- None so far is a member.
use Rattle.std.proofs.Common.{◌≡◌, ◌<◌, ◌≤◌, ℕ, false}
use Rattle.task_core.specs.States.{truth}
use Rattle.mutex_groups.proofs.follows.is_within.Given as goal

abbrev pub invariant-loop-number : goal.invariant-loop-number
invariant-loop-number l = (f : ℕ) → l.count ≤ f → f < l.number → truth l.members f ≡ false
