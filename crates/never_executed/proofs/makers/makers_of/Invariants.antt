-- The outcomes of the actions so far were added.
use Rattle.std.proofs.Common.{◌≡◌, ◌++◌, map, drop}
use Rattle.never_executed.specs.Makers.{makers, makers_from}
use Rattle.never_executed.specs.Values.{maker_value}
use Rattle.never_executed.proofs.makers.makers_of.Given as goal

abbrev pub invariant-loop-number : goal.invariant-loop-number
invariant-loop-number l = map maker_value l.found.items ++ makers_from l.lit l.number (drop l.number l.task.actions.items) ≡ makers l.task l.lit
