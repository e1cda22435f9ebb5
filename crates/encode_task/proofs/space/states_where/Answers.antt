-- The condition's vectors, and of them the states.
use Rattle.std.proofs.Common.{◌+◌, inl, arith}
use Rattle.std.proofs.lemmas.Bool.{leb-true}
use Rattle.std.proofs.lemmas.Result.{err_from_is_err_and}
use Rattle.task_core.specs.Conditions.{depth, holds}
use Rattle.dd_ops.specs.Operations.{and_of}
use Rattle.encode_task.specs.WorkingSets.IsPartOf.{itself}
use Rattle.dd_sets.proofs.RoomSteps.{room_owned, room_wider}
use Rattle.encode_task.proofs.PartLemmas.{answer_slot, rough_own, same_refusal}
use Rattle.encode_task.proofs.space.states_where.Goals as goal

pub returns-in_err-vectors-clause-full : goal.returns-in_err-vectors-clause-full
returns-in_err-vectors-clause-full c full w small rough =
    let p = err_from_is_err_and c.from_residual.result c.from_residual.ensures.1 in
    room_wider _ (depth c.args.cond.now + 4) 204 0 0 (omega (arith, leb-true (depth c.args.cond.now) 200 c.requires.shallow)) (omega arith)
    (c.set_where.ensures.full (same_refusal c.set_where.result c.from_residual.result _ c.in_err-vectors.was p full) w small)

pub returns-clause-full : goal.returns-clause-full
returns-clause-full c full w small rough =
    let vectors = answer_slot _ _ _ c.set_where.result _ c.in_ok-vectors.was c.set_where.ensures.answer in
    room_owned _ _ _ vectors 0 204 0 0 0 (inl (small _ (itself c.args.cond.now), tt)) (omega arith) (omega arith)
    (c.states_of.ensures.full full w (rough_own w (and_of (holds c.args.invariant.now)) _ _ c.in_ok-vectors.vectors _ vectors rough))
