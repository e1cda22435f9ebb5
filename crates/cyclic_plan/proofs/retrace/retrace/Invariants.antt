-- The board is where the rest of the steps follows.

use Rattle.task_core.specs.Cubes.{SetOfVectors}
use Rattle.slot_board.specs.Board.{Start}
use Rattle.cyclic_plan.specs.Stages.{AreTakersSmall, HasNear, none_taken}
use Rattle.cyclic_plan.specs.Steps.{AreStepsFrom, RetracedOn}
use Rattle.std.proofs.Common.{drop, true}
use Rattle.cyclic_plan.proofs.retrace.retrace.Given as goal

abbrev pub invariant-loop-step : goal.invariant-loop-step
invariant-loop-step l = (start : Start) (left near : SetOfVectors) → HasNear start l.fn.enc l.fn.board.slots.items left none_taken near → AreTakersSmall start true left → AreStepsFrom start left 0 0 l.fn.steps
    → RetracedOn start l.enc l.board.slots.items left (drop l.step-index l.steps)
