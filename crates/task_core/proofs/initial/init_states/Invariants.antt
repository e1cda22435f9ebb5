-- The states are those after the entries so far, and never were more than the limit.
use Rattle.std.proofs.Common.{ℕ, ◌≤◌, length}
use Rattle.task_core.specs.States.{ShowsVectors}
use Rattle.task_core.specs.Tasks.{fluent_count, states_after_entries}
use Rattle.task_core.proofs.initial.init_states.Given as goal

abbrev pub invariant-loop-entry : goal.invariant-loop-entry
invariant-loop-entry l = record {
  shown : ShowsVectors (fluent_count l.task) l.states.items (states_after_entries l.task l.entry-index);
  few : (k : ℕ) → k ≤ l.entry-index → length (states_after_entries l.task k) ≤ l.limit;
}
