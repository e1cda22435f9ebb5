-- What is in one of the first sets.
use Rattle.std.proofs.Common.{[], ◌∷◌, ◌&&◌, take}
use Rattle.std.specs.List.{list_any}
use Rattle.dd_sets.specs.Frames.{Owns}
use Rattle.dd_sets.specs.LiveSets.{set_of}
use Rattle.encode_task.proofs.landing.some_landing.Given as goal

abbrev pub invariant-loop-slot : goal.invariant-loop-slot
invariant-loop-slot l = Owns l.fn.sets l.sets ((l.some.0, λ values. list_any (λ slot. set_of l.fn.sets l.fn.allowed.0 values && set_of l.fn.sets slot.0 values) (take l.slot-index l.lands)) ∷ [])
