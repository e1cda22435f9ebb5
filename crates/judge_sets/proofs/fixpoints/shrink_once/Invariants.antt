use Rattle.dd_nodes.specs.Subfunctions.{Function}
use Rattle.judge_sets.specs.Places.{HasLost, HasShrunk, Scene}
use Rattle.judge_sets.proofs.fixpoints.shrink_once.Given as goal

abbrev pub invariant-loop-a : goal.invariant-loop-a
invariant-loop-a l = (scene : Scene) (from set : Function) → HasShrunk scene l.fn.enc l.fn.board.slots.items from set → HasLost scene l.enc l.board.slots.items from set l.a l.shrank
