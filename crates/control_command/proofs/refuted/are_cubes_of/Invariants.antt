use Rattle.std.proofs.Common.{map, take}
use Rattle.std.specs.Prelude.{All}
use Rattle.plan_certs.specs.Named.{cube_of}
use Rattle.plan_rules.specs.Plans.{IsCubeOf}
use Rattle.control_command.proofs.refuted.are_cubes_of.Given as goal

abbrev pub invariant-loop-cube : goal.invariant-loop-cube
invariant-loop-cube l = All (IsCubeOf l.fluents) (map cube_of (take l.cube-index l.cubes))
