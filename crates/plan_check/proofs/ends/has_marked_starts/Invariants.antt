use Rattle.std.proofs.Common.{ℕ, ◌<◌, ◌≡◌, true}
use Rattle.plan_check.specs.Plain.{is_initial_at}
use Rattle.plan_check.specs.Walks.{IsMarked}
use Rattle.plan_check.proofs.ends.has_marked_starts.Given as goal

abbrev pub invariant-loop-i : goal.invariant-loop-i
invariant-loop-i l = (k : ℕ) → k < l.i → is_initial_at l.graph k ≡ true → IsMarked l.marks k
