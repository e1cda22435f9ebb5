-- The marks so far.
use Rattle.std.proofs.Common.{ℕ, ◌<◌, ◌≡◌, ◌↔◌, length}
use Rattle.task_core.specs.States.{IsWithin, vector}
use Rattle.exec_graph.specs.Values.{IsWithinFluents}
use Rattle.plan_check.specs.Walks.{IsMarked}
use Rattle.plan_witness.specs.Marked.{place_at}
use Rattle.plan_witness.proofs.onward.marks_of.Given as goal

abbrev pub invariant-loop-i : goal.invariant-loop-i
invariant-loop-i l = record {
  count : length l.marks.items ≡ l.i;
  marked : (n : ℕ) → IsWithinFluents n l.graph → IsWithin n l.state → (k : ℕ) → k < l.i
      → IsMarked l.marks.items k ↔ (place_at n l.graph k ≡ record { state = vector n l.state; context = l.context });
}
