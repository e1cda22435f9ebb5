use Rattle.std.proofs.Common.{◌≡◌, take}
use Rattle.task_core.specs.Initial.{entry_of}
use Rattle.short_conditions.proofs.tasks.copied_entry.Given as goal

abbrev pub invariant-loop-alternative : goal.invariant-loop-alternative
invariant-loop-alternative l = entry_of l.copies.items ≡ entry_of (take l.alternative-index l.alternatives)
