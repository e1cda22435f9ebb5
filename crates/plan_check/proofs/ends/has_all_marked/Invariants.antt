use Rattle.std.proofs.Common.{ℕ, ◌<◌}
use Rattle.plan_check.specs.Walks.{IsMarked}
use Rattle.plan_check.proofs.ends.has_all_marked.Given as goal

abbrev pub invariant-loop-i : goal.invariant-loop-i
invariant-loop-i l = (k : ℕ) → k < l.i → IsMarked l.marks k
