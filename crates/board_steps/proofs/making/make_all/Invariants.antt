use Rattle.std.proofs.Common.{drop}
use Rattle.slot_board.specs.Board.{Start}
use Rattle.board_steps.specs.Steps.{CanMakeAll, Placed, Shows}
use Rattle.board_steps.proofs.MakeLemmas.{Halfway}
use Rattle.board_steps.proofs.making.make_all.Given as goal

-- the steps so far are made, and those that are left can be
abbrev pub invariant-loop-step : goal.invariant-loop-step
invariant-loop-step l = (start : Start) (placed : Placed) → Shows start l.fn.enc l.fn.board.slots.items placed → CanMakeAll start placed l.fn.steps → Halfway start l.enc l.board.slots.items placed (drop l.step-index l.steps) l.fn.steps
