use Rattle.std.proofs.Common.{ℕ}
use Rattle.task_core.specs.Tasks.{action_count}
use Rattle.context_plan.specs.Noted.{LedBy}
use Rattle.context_plan.specs.Scenes.{IsGuarded, Start, states_at}
use Rattle.context_plan.specs.Sizes.{TurnsFit}
use Rattle.context_plan.specs.Steps.{AreSpent, HasTurned}
use Rattle.context_plan.proofs.RoundSteps.{left_over}
use Rattle.context_plan.proofs.rounds.turn_all.Given as goal

abbrev pub invariant-loop-first : goal.invariant-loop-first
invariant-loop-first l = (start : Start) → IsGuarded start (l.fn.enc, l.fn.board.slots.items) → TurnsFit l.fn.way start (states_at (l.fn.enc, l.fn.board.slots.items) l.fn.place) → (k : ℕ) × HasTurned l.fn.way start (l.fn.enc, l.fn.board.slots.items) (l.enc, l.board.slots.items) (states_at (l.fn.enc, l.fn.board.slots.items) l.fn.place) k × AreSpent l.fn.way start (states_at (l.enc, l.board.slots.items) 1) l.spent.items × LedBy l.fn.way start (states_at (l.fn.enc, l.fn.board.slots.items) l.fn.place) k (action_count start.task) l.steps.items

-- how many states may still go, or come
abbrev pub decreases-loop-first : goal.decreases-loop-first
decreases-loop-first l = left_over l.fn.way (states_at (l.enc, l.board.slots.items) 0) l.fn.enc.fluents
