-- None of the numbers so far leads to a higher one.
use Rattle.std.proofs.Common.{◌<◌, ◌≤◌, ℕ}
use Rattle.std.specs.List.{Contains}
use Rattle.exec_graph.specs.Values.{followers_at}
use Rattle.plan_witness.specs.Ways.{at}
use Rattle.plan_witness.proofs.levels.never_rises.Given as goal

abbrev pub invariant-loop-number : goal.invariant-loop-number
invariant-loop-number g l = (i j : ℕ) → i < l.number → Contains (followers_at l.graph i) j → at l.ranks j ≤ at l.ranks i
