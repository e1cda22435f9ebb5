use Rattle.std.proofs.Common.{◌≡◌, List, take}
use Rattle.plan_rules.specs.Rules.{PlanRule}
use Rattle.judge_sets.specs.Places.{HasCube, HasRead, IsNextRule, Scene}
use Rattle.judge_sets.proofs.reading.make_cube.Given as goal

-- the literals so far are met
abbrev pub invariant-loop-lit : goal.invariant-loop-lit
invariant-loop-lit l = (scene : Scene) (before : List PlanRule) (rule : PlanRule) → HasRead scene l.fn.enc l.fn.board.slots.items before → IsNextRule scene before rule → rule.cube ≡ l.fn.cube
    → HasCube scene l.enc l.board.slots.items before (take l.lit-index l.cube)
