-- The first numbers are added.
use Rattle.std.proofs.Common.{◌≡◌, ◌++◌, take}
use Rattle.exec_graph.specs.Numbers.{numbers_of}
use Rattle.exec_graph.proofs.rows.push_all.Given as goal

abbrev pub invariant-loop-number : goal.invariant-loop-number
invariant-loop-number l = numbers_of l.numbers ≡ numbers_of l.fn.numbers ++ take l.number-index l.more
