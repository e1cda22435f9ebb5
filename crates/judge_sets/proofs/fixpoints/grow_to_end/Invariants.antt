use Rattle.std.proofs.Common.{◌≡◌, ◌+◌, cond, false, not}
use Rattle.dd_nodes.specs.Subfunctions.{Function}
use Rattle.slot_board.specs.Board.{set_at}
use Rattle.task_core.specs.Tasks.{action_count}
use Rattle.task_core.specs.Vectors.{all_vectors, value_of}
use Rattle.plan_theory.proofs.RoundSteps.{held}
use Rattle.judge_sets.specs.Places.{GainsNone, HasGrown, Scene}
use Rattle.judge_sets.proofs.fixpoints.grow_to_end.Given as goal

abbrev pub invariant-loop-grew : goal.invariant-loop-grew
invariant-loop-grew l = (scene : Scene) (set : Function) → HasGrown scene l.outcomes l.fn.enc l.fn.board.slots.items set
    → (now : Function) × HasGrown scene l.outcomes l.enc l.board.slots.items now × (l.grew ≡ false → GainsNone l.outcomes scene now (action_count scene.start.task))

-- how many vectors are lacked, and one more where something was gained
abbrev pub decreases-loop-grew : goal.decreases-loop-grew
decreases-loop-grew l = held (λ v. not (set_at l.enc.sets l.board.slots.items 4 (value_of v))) (all_vectors l.fn.enc.fluents) + cond l.grew 1 0
