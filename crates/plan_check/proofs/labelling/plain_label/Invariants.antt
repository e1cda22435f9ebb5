use Rattle.std.proofs.Common.{ℕ, ◌≡◌, ◌<◌, length, IsTrue}
use Rattle.task_core.specs.Conditions.{ids_below}
use Rattle.plan_check.specs.Labels.{mark_at}
use Rattle.plan_check.specs.Plain.{is_goal_at}
use Rattle.plan_check.proofs.labelling.plain_label.Given as goal

abbrev pub invariant-loop-i : goal.invariant-loop-i
invariant-loop-i l = record {
  count : length l.marks.items ≡ l.i;
  each : (n k : ℕ) → IsTrue (ids_below n l.cond) → k < l.i → mark_at l.marks.items k ≡ is_goal_at n l.cond l.graph k;
}
