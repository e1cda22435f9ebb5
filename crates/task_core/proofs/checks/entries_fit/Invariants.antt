-- The loop goes on while each part so far passes.
use Rattle.std.proofs.Common.{◌≡◌, drop}
use Rattle.std.specs.List.{list_all}
use Rattle.task_core.specs.Initial.{entries_within, entry_of, entry_within}
use Rattle.task_core.proofs.checks.entries_fit.Given as goal

abbrev pub invariant-loop-entry : goal.invariant-loop-entry
invariant-loop-entry l = list_all (λ entry. entry_within l.fluents (entry_of entry.items)) (drop l.entry-index l.entry-items) ≡ entries_within l.fluents l.init
