-- The set has what each so far gives.
use Rattle.std.proofs.Common.{◌≡◌, ℕ, Bool, ◌||◌, take}
use Rattle.std.specs.List.{list_any}
use Rattle.relaxed_reach.specs.Relaxed.{outcome_gives}
use Rattle.relaxed_reach.specs.Literals.{has}
use Rattle.relaxed_reach.proofs.reaching.with_outcomes.Given as goal

abbrev pub invariant-loop-outcome : goal.invariant-loop-outcome
invariant-loop-outcome l = (f : ℕ) (value : Bool) → has l.more f value ≡ (list_any (outcome_gives (has l.known) f value) (take l.outcome-index l.outcomes) || has l.literals f value)
