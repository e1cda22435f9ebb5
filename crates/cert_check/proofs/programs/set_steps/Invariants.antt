use Rattle.std.proofs.Common.{◌≡◌, ◌++◌, drop, map}
use Rattle.std.specs.List.{flat_map}
use Rattle.plan_certs.specs.Named.{cube_of, set_of}
use Rattle.cert_check.specs.Programs.{cube_steps, set_steps}
use Rattle.cert_check.proofs.programs.set_steps.Given as goal

-- the steps so far, and those of the cubes that are left
abbrev pub invariant-loop-cube : goal.invariant-loop-cube
invariant-loop-cube l = l.steps.items ++ flat_map (cube_steps l.space) (map cube_of (drop l.cube-index l.set.cubes.items)) ≡ set_steps l.space (set_of l.set)
