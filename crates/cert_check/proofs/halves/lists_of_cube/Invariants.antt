-- The literals so far are in the accumulator.
use Rattle.std.proofs.Common.{[], ◌∷◌, take}
use Rattle.dd_sets.specs.Frames.{Owns}
use Rattle.encode_task.specs.TaskSets.{cube_set}
use Rattle.cert_check.proofs.halves.lists_of_cube.Given as goal

abbrev pub invariant-loop-lit : goal.invariant-loop-lit
invariant-loop-lit l = Owns l.fn.sets l.sets ((l.all.0, cube_set (take l.lit-index l.cube)) ∷ [])
