-- The literals so far are applied.
use Rattle.std.proofs.Common.{[], ◌∷◌, take}
use Rattle.dd_sets.specs.Frames.{Owns}
use Rattle.dd_sets.specs.LiveSets.{set_of}
use Rattle.encode_task.specs.Images.{assigned_signed}
use Rattle.encode_task.proofs.initial.with_signed.Given as goal

abbrev pub invariant-loop-lit : goal.invariant-loop-lit
invariant-loop-lit l = Owns l.fn.sets l.sets ((l.states.0, assigned_signed l.positive (take l.lit-index l.lits) (set_of l.fn.sets l.fn.a.0)) ∷ [])
