-- The alternatives so far are in the accumulator.
use Rattle.std.proofs.Common.{[], ◌∷◌, take}
use Rattle.dd_sets.specs.Frames.{Owns}
use Rattle.dd_sets.specs.LiveSets.{set_of}
use Rattle.task_core.specs.Initial.{entry_of}
use Rattle.encode_task.specs.Images.{entry_image}
use Rattle.encode_task.proofs.initial.after_entry.Given as goal

abbrev pub invariant-loop-alternative : goal.invariant-loop-alternative
invariant-loop-alternative l = Owns l.fn.sets l.sets ((l.after.0, entry_image (set_of l.fn.sets l.fn.a.0) (take l.alternative-index (entry_of l.entry))) ∷ [])
