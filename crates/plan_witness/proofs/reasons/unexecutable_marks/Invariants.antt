-- The marks so far.
use Rattle.std.proofs.Common.{◌≡◌, ◌↔◌, ◌<◌, ℕ, length}
use Rattle.task_core.specs.Tasks.{fluent_count, system_of}
use Rattle.plan_rules.specs.Rules.{plain_of}
use Rattle.exec_graph.specs.Executions.{IsUnexecutableAt}
use Rattle.plan_check.specs.Walks.{IsMarked}
use Rattle.plan_witness.specs.Marked.{place_at}
use Rattle.plan_witness.proofs.reasons.unexecutable_marks.Given as goal

abbrev pub invariant-loop-i : goal.invariant-loop-i
invariant-loop-i l = record {
  count : length l.marks.items ≡ l.i;
  marked : (k : ℕ) → k < l.i → IsMarked l.marks.items k ↔ IsUnexecutableAt (system_of l.task) (plain_of l.plan) (place_at (fluent_count l.task) l.graph k);
}
