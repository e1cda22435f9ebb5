use Rattle.std.proofs.Common.{ℕ, ◌≡◌, ◌<◌, ◌≤◌, ◌+◌, length}
use Rattle.exec_graph.specs.Values.{followers_at, lengths_below}
use Rattle.plan_check.specs.Labels.{is_led, mark_at}
use Rattle.plan_check.proofs.labelling.next_label.Given as goal

abbrev pub invariant-loop-i : goal.invariant-loop-i
invariant-loop-i g l = record {
  count : length l.marks.items ≡ l.i;
  each : (k : ℕ) → k < l.i → mark_at l.marks.items k ≡ is_led l.need (mark_at l.label) (followers_at l.graph k);
  steps : l.steps ≤ l.initial.steps + lengths_below (followers_at l.graph) l.i;
}
