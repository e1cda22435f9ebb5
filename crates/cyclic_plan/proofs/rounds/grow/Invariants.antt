-- The next states have what the first actions lead into the near ones.
use Rattle.std.proofs.Common.{ℕ}
use Rattle.task_core.specs.Cubes.{SetOfVectors}
use Rattle.slot_board.specs.Board.{Start}
use Rattle.cyclic_plan.specs.Steps.{BeginsStep, HasGrown}
use Rattle.cyclic_plan.proofs.rounds.grow.Given as goal

abbrev pub invariant-loop-a : goal.invariant-loop-a
invariant-loop-a l = (start : Start) (left : SetOfVectors) (k : ℕ) → BeginsStep start l.fn.enc l.fn.board.slots.items left k l.fn.steps.items l.fn.spent.items
    → HasGrown start l.enc l.board.slots.items left k l.a l.steps.items l.spent.items
