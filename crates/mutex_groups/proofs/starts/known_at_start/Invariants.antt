-- It is known of each vector after the entries so far.
use Rattle.std.proofs.Common.{take}
use Rattle.task_core.specs.Initial.{entries_of}
use Rattle.task_core.specs.States.{truth}
use Rattle.mutex_groups.specs.Starts.{AreAfter}
use Rattle.mutex_groups.proofs.starts.known_at_start.Given as goal

abbrev pub invariant-loop-entry : goal.invariant-loop-entry
invariant-loop-entry l = AreAfter l.task (truth l.members) l.known (take l.entry-index (entries_of l.task.init))
