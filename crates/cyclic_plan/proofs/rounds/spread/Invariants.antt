use Rattle.std.proofs.Common.{ℕ, not}
use Rattle.task_core.specs.Cubes.{SetOfVectors}
use Rattle.task_core.specs.Tasks.{action_count}
use Rattle.task_core.specs.Vectors.{all_vectors, value_of}
use Rattle.slot_board.specs.Board.{Start, set_at}
use Rattle.cyclic_plan.specs.Stages.{HasNear, none_taken}
use Rattle.cyclic_plan.specs.Steps.{HasGrown}
use Rattle.plan_theory.proofs.RoundSteps.{held}
use Rattle.cyclic_plan.proofs.rounds.spread.Given as goal

abbrev pub invariant-loop-enc : goal.invariant-loop-enc
invariant-loop-enc l = (start : Start) (left near : SetOfVectors) → HasNear start l.fn.enc l.fn.board.slots.items left none_taken near
    → (k : ℕ) × HasGrown start l.enc l.board.slots.items left k (action_count start.task) l.steps.items l.spent.items

-- how many states are not near
abbrev pub decreases-loop-enc : goal.decreases-loop-enc
decreases-loop-enc l = held (λ v. not (set_at l.enc.sets l.board.slots.items 3 (value_of v))) (all_vectors l.fn.enc.fluents)
