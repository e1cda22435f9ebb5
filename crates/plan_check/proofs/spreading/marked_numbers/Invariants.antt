-- The marked numbers so far.
use Rattle.plan_check.proofs.SpreadSteps.{IsListing}
use Rattle.plan_check.proofs.spreading.marked_numbers.Given as goal

abbrev pub invariant-loop-i : goal.invariant-loop-i
invariant-loop-i l = IsListing l.marks l.i l.found.items
