-- A part weighs less than the whole, and each half of some parts less than all.
use Rattle.std.proofs.Common.{◌+◌, ◌*◌}
use Rattle.encode_task.proofs.HalfLemmas.{weight, total}
use Rattle.encode_task.proofs.conditions.+halving.Given as goal

abbrev pub decreases-by_halves : goal.decreases-by_halves
decreases-by_halves l = 2 * weight l.cond.now

abbrev pub decreases-all_of : goal.decreases-all_of
decreases-all_of l = 2 * total l.parts.now + 1

abbrev pub decreases-any_of : goal.decreases-any_of
decreases-any_of l = 2 * total l.parts.now + 1
