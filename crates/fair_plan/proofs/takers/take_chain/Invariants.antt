use Rattle.fair_plan.specs.Boards.{IsThere, Origin}
use Rattle.fair_plan.proofs.takers.take_chain.Given as goal

abbrev pub invariant-loop-i : goal.invariant-loop-i
invariant-loop-i l = (origin : Origin) → IsThere origin (l.fn.enc, l.fn.board.slots.items) → IsThere origin (l.enc, l.board.slots.items)
