use Rattle.std.proofs.Common.{◌≡◌, ◌++◌, drop, map}
use Rattle.std.specs.Prelude.{Vec}
use Rattle.std.specs.declared.alloc.Global.{Global}
use Rattle.pddl_system.specs.Systems as systems
use Rattle.task_core.specs.Initial as initial
use Rattle.task_core.specs.declared.actions.Alternative.{Alternative}
use Rattle.ground_task.specs.Collecting.{entries_value}
use Rattle.ground_task.proofs.initial.entries.Given as goal

abbrev pub invariant-loop-alternatives : goal.invariant-loop-alternatives
invariant-loop-alternatives l =
    map (λ (e : Vec Alternative Global). initial.entry_of e.items) l.entries.items ++ map (systems.entry_over l.fluents) (entries_value (drop l.alternatives-index l.listed))
    ≡ map (systems.entry_over l.fluents) (entries_value l.listed)
