use Rattle.fair_theory.specs.FairSets.{Asked}
use Rattle.fair_plan.specs.Boards.{IsThere, Origin}
use Rattle.fair_plan.specs.Rounds.{ComesToAll, HasTargets}
use Rattle.fair_plan.proofs.fixpoints.come_to_all.Given as goal

-- the first targets were looked at, of whatever is asked for with targets at these places
abbrev pub invariant-loop-i : goal.invariant-loop-i
invariant-loop-i l = (origin : Origin) → IsThere origin (l.fn.enc, l.fn.board.slots.items)
    → IsThere origin (l.enc, l.board.slots.items)
    × ((asked : Asked) → HasTargets origin asked l.fn.first l.fn.count (l.fn.enc, l.fn.board.slots.items)
    → ComesToAll origin asked l.fn.first (l.fn.enc, l.fn.board.slots.items) (l.enc, l.board.slots.items) l.i)
