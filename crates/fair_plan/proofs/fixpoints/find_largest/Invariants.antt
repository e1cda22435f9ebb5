use Rattle.plan_theory.proofs.RoundSteps.{held}
use Rattle.task_core.specs.Vectors.{all_vectors}
use Rattle.fair_theory.specs.FairSets.{Asked}
use Rattle.fair_plan.specs.Boards.{IsThere, Origin, states_in}
use Rattle.fair_plan.specs.Rounds.{Begins, HasRound}
use Rattle.fair_plan.proofs.fixpoints.find_largest.Given as goal

abbrev pub invariant-loop-wanted : goal.invariant-loop-wanted
invariant-loop-wanted l = (origin : Origin) (asked : Asked) → IsThere origin (l.fn.enc, l.fn.board.slots.items)
    → Begins origin asked l.fn.wanted.stays l.fn.wanted.first l.fn.wanted.count (l.fn.enc, l.fn.board.slots.items)
    → IsThere origin (l.enc, l.board.slots.items) × HasRound origin asked l.fn.wanted.first (l.enc, l.board.slots.items)

-- how many states the last round began with
abbrev pub decreases-loop-wanted : goal.decreases-loop-wanted
decreases-loop-wanted l = held (states_in (l.enc, l.board.slots.items) 4) (all_vectors l.fn.enc.fluents)
