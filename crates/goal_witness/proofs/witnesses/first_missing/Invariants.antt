-- Those so far in which an execution may begin have a mark.
use Rattle.std.proofs.Common.{◌≡◌, ◌<◌, ℕ, true}
use Rattle.plan_check.specs.Plain.{is_initial_at}
use Rattle.plan_check.specs.Walks.{IsMarked}
use Rattle.goal_witness.proofs.witnesses.first_missing.Given as goal

abbrev pub invariant-loop-i : goal.invariant-loop-i
invariant-loop-i l = (k : ℕ) → k < l.i → is_initial_at l.graph k ≡ true → IsMarked l.marks k
