use Rattle.judge_sets.specs.Places.{HasPart, HasRead, Scene}
use Rattle.judge_sets.proofs.settling.settle.Given as goal

abbrev pub invariant-loop-a : goal.invariant-loop-a
invariant-loop-a l = (scene : Scene) → HasRead scene l.fn.enc l.fn.board.slots.items scene.rules → HasPart scene l.enc l.board.slots.items l.a
