use Rattle.std.proofs.Common.{◌≡◌, ◌++◌, drop}
use Rattle.pddl_system.specs.Systems as systems
use Rattle.task_core.specs.Initial as initial
use Rattle.ground_task.specs.Collecting.{entry_value}
use Rattle.ground_task.proofs.initial.entry.Given as goal

abbrev pub invariant-loop-literals : goal.invariant-loop-literals
invariant-loop-literals l =
    initial.entry_of l.entry.items ++ systems.entry_over l.fluents (entry_value (drop l.literals-index l.alternatives))
    ≡ systems.entry_over l.fluents (entry_value l.alternatives)
