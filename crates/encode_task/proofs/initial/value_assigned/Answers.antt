-- A refusal shows that there was no room.
use Rattle.std.proofs.Common.{◌≡◌, inr, true, false, refl, arith}
use Rattle.dd_sets.proofs.RoomSteps.{room_owned, room_released}
use Rattle.encode_task.proofs.PartLemmas.{answer_slot, rough_own}
use Rattle.encode_task.specs.Images.{has_value}
use Rattle.dd_ops.specs.Operations.{and_of}
use Rattle.dd_sets.specs.LiveSets.{set_of}
use Rattle.dd_sets.proofs.OperationSizes.{cofactor_small, join_rough}
use Rattle.encode_task.proofs.initial.value_assigned.Goals as goal

pub returns-clause-full : goal.returns-clause-full
returns-clause-full c full w wide small rough =
    let free = answer_slot _ _ _ c.for_some_value.result _ c.in_ok-free.was c.for_some_value.ensures.answer in
    let low = cofactor_small c.args.sets.now.vars w (set_of c.args.sets.now c.args.a.0) c.args.f.0 false c.requires.fluent small in
    let high = cofactor_small c.args.sets.now.vars w (set_of c.args.sets.now c.args.a.0) c.args.f.0 true c.requires.fluent small in
    let vars : c.for_some_value.new.sets.vars ≡ c.args.sets.now.vars = free.kept.vars in
    room_owned _ _ _ free 1 2 0 1 1 (inr (join_rough _ w _ _ low high, 0, refl, tt)) (omega arith) (omega arith)
    (room_released _ (c.where_value-answer.ensures.full full w (omega arith) (rough_own w (λ set. and_of set (has_value c.args.f.0 c.args.value)) _ _ c.in_ok-free.free _ free rough)) c.release.ensures.released)
