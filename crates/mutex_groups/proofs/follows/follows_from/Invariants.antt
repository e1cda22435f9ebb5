-- It follows, whichever member so far is the one.
use Rattle.std.proofs.Common.{◌≡◌, ◌<◌, ℕ, true}
use Rattle.task_core.specs.States.{truth}
use Rattle.mutex_groups.specs.Follows.{FollowsAt}
use Rattle.mutex_groups.proofs.follows.follows_from.Given as goal

abbrev pub invariant-loop-number : goal.invariant-loop-number
invariant-loop-number l = (f : ℕ) → f < l.number → truth l.members f ≡ true → FollowsAt (truth l.members) f l.cond
