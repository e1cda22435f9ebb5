-- The board is where the steps so far lead.
use Rattle.std.proofs.Common.{take}
use Rattle.slot_board.specs.Board.{HasNothing, Start}
use Rattle.reach_plan.specs.Searches.{HasProgress, MayRetrace}
use Rattle.reach_plan.specs.Steps.{after_steps, at_goal}
use Rattle.reach_plan.proofs.retrace.retrace.Given as goal

abbrev pub invariant-loop-step : goal.invariant-loop-step
invariant-loop-step l = (start : Start) → HasNothing start l.fn.enc l.fn.board.slots.items → MayRetrace l.fn.class start l.fn.takers l.fn.steps → HasProgress start l.enc l.board.slots.items l.fn.takers (after_steps l.fn.class start.task (at_goal start.task) (take l.step-index l.steps))
