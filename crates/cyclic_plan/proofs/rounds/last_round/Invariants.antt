use Rattle.std.proofs.Common.{ℕ}
use Rattle.task_core.specs.Tasks.{system_of}
use Rattle.task_core.specs.Vectors.{all_vectors, value_of}
use Rattle.slot_board.specs.Board.{set_at}
use Rattle.slot_board.specs.Board.{Start}
use Rattle.plan_theory.specs.PairRounds.{round}
use Rattle.cyclic_plan.specs.Stages.{HasRound, HasRounds, none_taken}
use Rattle.cyclic_plan.specs.Steps.{AreStepsFrom}
use Rattle.plan_theory.proofs.RoundSteps.{held}
use Rattle.cyclic_plan.proofs.rounds.last_round.Given as goal

abbrev pub invariant-loop-alloc : goal.invariant-loop-alloc
invariant-loop-alloc l = (start : Start) → HasRound start l.fn.enc l.fn.board.slots.items (round (system_of start.task) 0) none_taken → (r : ℕ) × HasRounds start l.enc l.board.slots.items r × AreStepsFrom start (round (system_of start.task) r) 0 0 l.steps.items

-- how many states are left
abbrev pub decreases-loop-alloc : goal.decreases-loop-alloc
decreases-loop-alloc l = held (λ v. set_at l.enc.sets l.board.slots.items 1 (value_of v)) (all_vectors l.fn.enc.fluents)
