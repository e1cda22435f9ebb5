use Rattle.std.proofs.Common.{◌≡◌, ◌+◌, cond, false}
use Rattle.dd_nodes.specs.Subfunctions.{Function}
use Rattle.slot_board.specs.Board.{set_at}
use Rattle.task_core.specs.Tasks.{action_count}
use Rattle.task_core.specs.Vectors.{all_vectors, value_of}
use Rattle.plan_theory.proofs.RoundSteps.{held}
use Rattle.judge_sets.specs.Places.{LosesNone, HasShrunk, Scene}
use Rattle.judge_sets.proofs.fixpoints.shrink_to_end.Given as goal

abbrev pub invariant-loop-shrank : goal.invariant-loop-shrank
invariant-loop-shrank l = (scene : Scene) (from set : Function) → HasShrunk scene l.fn.enc l.fn.board.slots.items from set
    → (now : Function) × HasShrunk scene l.enc l.board.slots.items from now × (l.shrank ≡ false → LosesNone scene now (action_count scene.start.task))

-- how many vectors are left, and one more where something was lost
abbrev pub decreases-loop-shrank : goal.decreases-loop-shrank
decreases-loop-shrank l = held (λ v. set_at l.enc.sets l.board.slots.items 6 (value_of v)) (all_vectors l.fn.enc.fluents) + cond l.shrank 1 0
