-- No other member so far is true.
use Rattle.std.proofs.Common.{◌≡◌, ◌<◌, ℕ, true}
use Rattle.task_core.specs.States.{truth}
use Rattle.mutex_groups.proofs.starts.is_only.Given as goal

abbrev pub invariant-loop-number : goal.invariant-loop-number
invariant-loop-number l = (f : ℕ) → f < l.number → truth l.members f ≡ true → truth l.state f ≡ true → f ≡ l.fluent.0
