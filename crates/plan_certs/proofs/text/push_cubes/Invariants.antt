use Rattle.std.proofs.Common.{◌≡◌, ◌++◌, map, take, string_bytes}
use Rattle.std.specs.List.{flat_map}
use Rattle.task_core.specs.Names.{name_bytes}
use Rattle.plan_certs.specs.Named.{cube_of}
use Rattle.plan_certs.specs.Texts.{next_cube_text}
use Rattle.plan_certs.proofs.text.push_cubes.Given as goal

abbrev pub invariant-loop-cube : goal.invariant-loop-cube
invariant-loop-cube l =
    string_bytes l.out ≡ string_bytes l.fn.out ++ flat_map (next_cube_text (map name_bytes l.fluents)) (map cube_of (take l.cube-index l.cubes))
