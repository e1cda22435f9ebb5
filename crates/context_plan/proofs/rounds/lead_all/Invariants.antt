use Rattle.std.proofs.Common.{ℕ}
use Rattle.task_core.specs.Cubes.{SetOfVectors}
use Rattle.context_plan.specs.Noted.{LedBy}
use Rattle.context_plan.specs.Rounds.{turns}
use Rattle.context_plan.specs.Scenes.{IsGuarded, SameStates, Start, states_at, sys_in}
use Rattle.context_plan.specs.Sizes.{RoundFits}
use Rattle.context_plan.specs.Steps.{AreSpent, Leads}
use Rattle.context_plan.proofs.rounds.lead_all.Given as goal

abbrev pub invariant-loop-a : goal.invariant-loop-a
invariant-loop-a l = (start : Start) → IsGuarded start (l.fn.enc, l.fn.board.slots.items) → RoundFits start (states_at (l.fn.enc, l.fn.board.slots.items) 0) → AreSpent l.fn.turning.way start (states_at (l.fn.enc, l.fn.board.slots.items) 0) l.fn.spent.items → Leads l.fn.turning.way start (l.fn.enc, l.fn.board.slots.items) (l.enc, l.board.slots.items) l.a × AreSpent l.fn.turning.way start (states_at (l.enc, l.board.slots.items) 1) l.spent.items × ((set : SetOfVectors) (k : ℕ) → SameStates start (states_at (l.fn.enc, l.fn.board.slots.items) 0) (turns l.fn.turning.way (sys_in start) set k) → LedBy l.fn.turning.way start set k 0 l.fn.steps.items → LedBy l.fn.turning.way start set k l.a l.steps.items)
