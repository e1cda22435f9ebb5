use Rattle.std.proofs.Common.{not}
use Rattle.plan_theory.proofs.RoundSteps.{held}
use Rattle.task_core.specs.Vectors.{all_vectors}
use Rattle.fair_plan.specs.Boards.{IsThere, Origin, set_in, states_in}
use Rattle.fair_plan.specs.Rounds.{IsPart}
use Rattle.fair_plan.proofs.takers.climb.Given as goal

abbrev pub invariant-loop-enc : goal.invariant-loop-enc
invariant-loop-enc l = (origin : Origin) → IsThere origin (l.fn.enc, l.fn.board.slots.items)
    → IsThere origin (l.enc, l.board.slots.items) × IsPart (set_in (l.enc, l.board.slots.items) 1) (set_in (l.enc, l.board.slots.items) 2)

-- how many states were not near before the last pass
abbrev pub decreases-loop-enc : goal.decreases-loop-enc
decreases-loop-enc l = held (λ v. not (states_in (l.enc, l.board.slots.items) 1 v)) (all_vectors l.fn.enc.fluents)
