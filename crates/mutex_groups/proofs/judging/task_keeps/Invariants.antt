-- Each action so far keeps it.
use Rattle.std.proofs.Common.{take}
use Rattle.std.specs.List.{All}
use Rattle.task_core.specs.States.{truth}
use Rattle.mutex_groups.specs.Cases.{Keeps}
use Rattle.mutex_groups.proofs.judging.task_keeps.Given as goal

abbrev pub invariant-loop-action : goal.invariant-loop-action
invariant-loop-action l = All (Keeps (truth l.members)) (take l.action-index l.action-items)
