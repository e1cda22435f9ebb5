-- The set has what each so far gives.
use Rattle.std.proofs.Common.{◌≡◌, ℕ, Bool, ◌||◌, take}
use Rattle.std.specs.List.{list_any}
use Rattle.relaxed_reach.specs.Relaxed.{change_gives}
use Rattle.relaxed_reach.specs.Literals.{has}
use Rattle.relaxed_reach.proofs.reaching.with_changes.Given as goal

abbrev pub invariant-loop-change : goal.invariant-loop-change
invariant-loop-change l = (f : ℕ) (value : Bool) → has l.more f value ≡ (list_any (change_gives (has l.known) f value) (take l.change-index l.changes) || has l.literals f value)
