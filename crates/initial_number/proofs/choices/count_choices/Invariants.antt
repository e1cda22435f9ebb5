-- Each choice for the entries so far gives a vector of its own, and there never were more than the
-- limit.
use Rattle.std.proofs.Common.{ℕ, ◌≤◌, length}
use Rattle.task_core.specs.States.{truth}
use Rattle.task_core.specs.Tasks.{states_after_entries}
use Rattle.initial_number.proofs.ChoiceLemmas.{HaveChoices}
use Rattle.initial_number.proofs.choices.count_choices.Given as goal

abbrev pub invariant-loop-entry : goal.invariant-loop-entry
invariant-loop-entry l = record {
  choices : HaveChoices l.task l.entry-index l.count (truth l.marks);
  few : (k : ℕ) → k ≤ l.entry-index → length (states_after_entries l.task k) ≤ l.limit;
}
