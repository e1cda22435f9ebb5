use Rattle.dd_nodes.specs.Subfunctions.{Function}
use Rattle.judge_sets.specs.Places.{HasGained, HasGrown, Scene}
use Rattle.judge_sets.proofs.fixpoints.grow_once.Given as goal

abbrev pub invariant-loop-a : goal.invariant-loop-a
invariant-loop-a l = (scene : Scene) (set : Function) → HasGrown scene l.outcomes l.fn.enc l.fn.board.slots.items set → HasGained scene l.outcomes l.enc l.board.slots.items set l.a l.grew
