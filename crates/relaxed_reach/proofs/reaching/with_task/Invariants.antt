-- The set has what each so far gives.
use Rattle.std.proofs.Common.{◌≡◌, ℕ, Bool, ◌||◌, take}
use Rattle.std.specs.List.{list_any}
use Rattle.relaxed_reach.specs.Relaxed.{action_gives}
use Rattle.relaxed_reach.specs.Literals.{has}
use Rattle.relaxed_reach.proofs.reaching.with_task.Given as goal

abbrev pub invariant-loop-action : goal.invariant-loop-action
invariant-loop-action l = (f : ℕ) (value : Bool) → has l.more f value ≡ (list_any (action_gives (has l.known) f value) (take l.action-index l.action-items) || has l.known f value)
