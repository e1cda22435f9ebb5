use Rattle.std.proofs.Common.{◌≡◌, take}
use Rattle.dd_sets.specs.Stores.{refs_of}
use Rattle.dd_sets.proofs.sets.Sets.numbers.Given as goal

abbrev pub invariant-loop-entry : goal.invariant-loop-entry
invariant-loop-entry l = l.numbers.items ≡ refs_of l.self-inside.order.variables l.self (take l.entry-index l.map)
