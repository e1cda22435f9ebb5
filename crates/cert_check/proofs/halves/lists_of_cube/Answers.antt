-- One literal more.
use Rattle.std.proofs.Common.{[], ◌∷◌, subst, take}
use Rattle.dd_nodes.specs.Subfunctions.{Function}
use Rattle.dd_sets.specs.Frames.{Owns}
use Rattle.encode_task.specs.TaskSets.{cube_set}
use Rattle.encode_task.proofs.PartLemmas.{answer_slot}
use Rattle.cert_check.proofs.HalfLemmas.{cube_more_at}
use Rattle.cert_check.proofs.halves.lists_of_cube.Goals as goal

pub loop-lit-preserved : goal.loop-lit-preserved
loop-lit-preserved c =
    subst (λ (f : Function). Owns c.args.sets.now c.with_literal.new.sets ((c.in_ok-all-2.all.0, f) ∷ []))
    (cube_more_at c.args.cube.now c.loop-lit.lit-index _ c.loop-lit-test.true)
    (answer_slot _ _ _ c.with_literal.result _ c.in_ok-all-2.was (c.with_literal.ensures c.args.sets.now (cube_set (take c.loop-lit.lit-index c.args.cube.now)) c.loop-lit.invariant))
