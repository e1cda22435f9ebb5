use Rattle.std.proofs.Common.{ℕ}
use Rattle.task_core.specs.Vectors.{all_vectors, value_of}
use Rattle.slot_board.specs.Board.{Start, set_at}
use Rattle.plan_theory.proofs.RoundSteps.{held}
use Rattle.cyclic_plan.specs.Certificates.{HasLost, HasLostSets}
use Rattle.cyclic_plan.proofs.certs.all_sets.Given as goal

abbrev pub invariant-loop-alloc : goal.invariant-loop-alloc
invariant-loop-alloc l = (start : Start) → HasLost start l.fn.enc l.fn.board.slots.items 0 → (r : ℕ) × HasLostSets start l.enc l.board.slots.items r l.sets.items

-- how many states are left
abbrev pub decreases-loop-alloc : goal.decreases-loop-alloc
decreases-loop-alloc l = held (λ v. set_at l.enc.sets l.board.slots.items 1 (value_of v)) (all_vectors l.fn.enc.fluents)
