-- A system in which actions are taken in some states alone.
use Rattle.std.specs.Prelude.{[], if◌then◌else◌}
use Rattle.task_core.specs.Cubes.{SetOfVectors}
use Rattle.task_core.specs.Systems.{System}

-- outside the guard no action can be executed
abbrev pub guarded_system : System → SetOfVectors → System
guarded_system sys guard =
    record sys { next = λ v a. if guard v then sys.next v a else [] }
