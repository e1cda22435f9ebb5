use Rattle.std.proofs.Common.{◌≡◌, map, take}
use Rattle.task_core.specs.Initial.{entry_of}
use Rattle.short_conditions.proofs.tasks.copied_entries.Given as goal

abbrev pub invariant-loop-entry : goal.invariant-loop-entry
invariant-loop-entry l = map (λ entry. entry_of entry.items) l.copies.items ≡ map (λ entry. entry_of entry.items) (take l.entry-index l.entries)
