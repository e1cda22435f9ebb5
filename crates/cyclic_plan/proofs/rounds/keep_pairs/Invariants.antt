use Rattle.task_core.specs.Cubes.{SetOfVectors}
use Rattle.slot_board.specs.Board.{Start}
use Rattle.cyclic_plan.specs.Stages.{HasPairs, HasRound, Takings}
use Rattle.cyclic_plan.proofs.rounds.keep_pairs.Given as goal

abbrev pub invariant-loop-a : goal.invariant-loop-a
invariant-loop-a l = (start : Start) (left : SetOfVectors) (taken : Takings) → HasRound start l.fn.enc l.fn.board.slots.items left taken → HasPairs start l.enc l.board.slots.items left taken l.a
