use Rattle.dd_nodes.specs.Subfunctions.{Function}
use Rattle.judge_sets.specs.Places.{Scene, ShrinksStill}
use Rattle.judge_sets.proofs.sweeps.shrink_in_sweeps.Given as goal

abbrev pub invariant-loop : goal.invariant-loop
invariant-loop l = (scene : Scene) (from : Function) → ShrinksStill scene l.fn.enc l.fn.board.slots.items from → ShrinksStill scene l.enc l.board.slots.items from
