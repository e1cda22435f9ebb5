use Rattle.dd_nodes.specs.Subfunctions.{Function}
use Rattle.judge_sets.specs.Places.{Scene, ShrinksStill}
use Rattle.judge_sets.proofs.sweeps.shrink_in_order.Given as goal

abbrev pub invariant-loop-a : goal.invariant-loop-a
invariant-loop-a l = (scene : Scene) (from : Function) → ShrinksStill scene l.fn.enc l.fn.board.slots.items from → ShrinksStill scene l.enc l.board.slots.items from
