use Rattle.std.proofs.Common.{◌≡◌, take}
use Rattle.dd_sets.specs.Stores.{renumbered}
use Rattle.dd_sets.proofs.slots.renumber.Given as goal

abbrev pub invariant-loop-place : goal.invariant-loop-place
invariant-loop-place l = l.slots.slots ≡ renumbered l.fn.slots.slots (take l.place l.numbers)
