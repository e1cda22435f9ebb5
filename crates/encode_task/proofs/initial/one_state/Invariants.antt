-- The values of the last fluents so far.
use Rattle.std.proofs.Common.{[], ◌∷◌, ◌-◌}
use Rattle.dd_sets.specs.Frames.{Owns}
use Rattle.encode_task.proofs.StateLemmas.{same_from}
use Rattle.encode_task.proofs.initial.one_state.Given as goal

abbrev pub invariant-loop-f : goal.invariant-loop-f
invariant-loop-f l = Owns l.fn.sets l.sets ((l.all.0, same_from l.state l.f (l.fluents - l.f)) ∷ [])
