use Rattle.fair_plan.specs.Boards.{IsThere, Origin}
use Rattle.fair_plan.proofs.takers.share.Given as goal

abbrev pub invariant-loop-a : goal.invariant-loop-a
invariant-loop-a l = (origin : Origin) → IsThere origin (l.fn.enc, l.fn.board.slots.items) → IsThere origin (l.enc, l.board.slots.items)
