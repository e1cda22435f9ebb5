use Rattle.judge_sets.specs.Places.{GrowsStill, Scene}
use Rattle.judge_sets.proofs.sweeps.grow_in_sweeps.Given as goal

abbrev pub invariant-loop : goal.invariant-loop
invariant-loop l = (scene : Scene) → GrowsStill scene l.outcomes l.fn.enc l.fn.board.slots.items → GrowsStill scene l.outcomes l.enc l.board.slots.items
