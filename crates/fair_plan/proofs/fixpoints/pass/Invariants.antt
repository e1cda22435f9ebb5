use Rattle.fair_plan.specs.Boards.{IsThere, Search}
use Rattle.fair_plan.specs.Rounds.{Passes}
use Rattle.fair_plan.proofs.fixpoints.pass.Given as goal

abbrev pub invariant-loop-a : goal.invariant-loop-a
invariant-loop-a l = (search : Search) → IsThere search (l.fn.enc, l.fn.board.slots.items)
    → IsThere search (l.enc, l.board.slots.items) × Passes search (l.fn.enc, l.fn.board.slots.items) (l.enc, l.board.slots.items) l.a
