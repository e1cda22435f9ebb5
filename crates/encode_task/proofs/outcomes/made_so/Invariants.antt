-- The changes so far are in the accumulator.
use Rattle.std.proofs.Common.{[], ◌∷◌, take}
use Rattle.std.specs.List.{list_any}
use Rattle.dd_sets.specs.Frames.{Owns}
use Rattle.task_core.specs.Actions.{change_makes}
use Rattle.encode_task.proofs.outcomes.made_so.Given as goal

abbrev pub invariant-loop-change : goal.invariant-loop-change
invariant-loop-change l = Owns l.fn.sets l.sets ((l.some.0, λ values. list_any (change_makes l.positive values l.f.0) (take l.change-index l.change-items)) ∷ [])
