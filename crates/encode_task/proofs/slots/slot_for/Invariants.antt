-- The rest of the list decides.
use Rattle.std.proofs.Common.{◌≡◌, drop}
use Rattle.dd_sets.specs.LiveSets.{listed_set}
use Rattle.encode_task.proofs.slots.slot_for.Given as goal

abbrev pub invariant-loop-entry : goal.invariant-loop-entry
invariant-loop-entry l = listed_set (drop l.entry-index l.changed) l.f.0 ≡ listed_set l.changed l.f.0
