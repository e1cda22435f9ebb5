-- No cell from the place on is the node, and places fall along the chain.
use Rattle.std.proofs.Common.{length}
use Rattle.dd_nodes.proofs.Chains.{IsSearched}
use Rattle.dd_nodes.proofs.arena.find.Given as goal

abbrev pub invariant-loop-at : goal.invariant-loop-at
invariant-loop-at l = IsSearched (length l.buckets.items) l.cells.items l.node l.at

abbrev pub decreases-loop-at : goal.decreases-loop-at
decreases-loop-at l = l.at
