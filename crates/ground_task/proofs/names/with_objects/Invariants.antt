use Rattle.std.proofs.Common.{◌≡◌, ◌∷◌, ◌++◌, drop, map}
use Rattle.std.specs.Rc.{rc_str_bytes}
use Rattle.task_core.specs.Names.{name_bytes}
use Rattle.ground_task.specs.NameWords.{listed}
use Rattle.ground_task.proofs.names.with_objects.Given as goal

abbrev pub invariant-loop-number : goal.invariant-loop-number
invariant-loop-number l =
    name_bytes l.name ++ map (listed l.words) (drop l.number-index l.numbers)
    ≡ rc_str_bytes l.fn.first ∷ map (listed l.words) l.numbers
