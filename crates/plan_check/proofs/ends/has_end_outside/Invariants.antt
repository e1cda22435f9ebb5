use Rattle.std.proofs.Common.{ℕ, ◌<◌, ◌≡◌, true, [], IsTrue}
use Rattle.task_core.specs.Conditions.{ids_below}
use Rattle.exec_graph.specs.Values.{followers_at}
use Rattle.plan_check.specs.Plain.{is_goal_at}
use Rattle.plan_check.proofs.ends.has_end_outside.Given as goal

abbrev pub invariant-loop-i : goal.invariant-loop-i
invariant-loop-i l = (n k : ℕ) → IsTrue (ids_below n l.goal) → k < l.i → followers_at l.graph k ≡ []
    → is_goal_at n l.goal l.graph k ≡ true
