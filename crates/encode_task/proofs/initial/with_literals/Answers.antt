-- A refusal shows that there was no room.
use Rattle.std.proofs.Common.{◌≡◌, inl, true, take, arith}
use Rattle.std.proofs.lemmas.Result.{err_from_is_err_and}
use Rattle.dd_sets.proofs.RoomSteps.{room_wider, room_owned, room_released}
use Rattle.encode_task.proofs.PartLemmas.{same_refusal, answer_slot, small_own}
use Rattle.encode_task.specs.Images.{assigned_signed}
use Rattle.encode_task.specs.WorkingSets.IsMadeOfLiterals.{adds, deletes}
use Rattle.encode_task.proofs.EntrySizes.{deleted_small}
use Rattle.encode_task.proofs.initial.with_literals.Goals as goal

pub returns-in_err-deleted-clause-full : goal.returns-in_err-deleted-clause-full
returns-in_err-deleted-clause-full c full w wide small =
    let p = err_from_is_err_and c.from_residual.result c.from_residual.ensures.1 in
    room_wider _ 3 4 1 1 (omega arith) (omega arith) (c.with_signed.ensures.full (same_refusal c.with_signed.result c.from_residual.result _ c.in_err-deleted.was p full) w wide (λ j. small _ (deletes j)))

pub returns-clause-full : goal.returns-clause-full
returns-clause-full c full w wide small =
    let owns = answer_slot _ _ _ c.with_signed.result _ c.in_ok-deleted.was c.with_signed.ensures.answer in
    let vars : c.with_signed.new.sets.vars ≡ c.args.sets.now.vars = owns.kept.vars in
    room_owned _ _ _ owns 3 4 1 0 1 (inl (deleted_small w _ _ c.args.lits.now small, tt)) (omega arith) (omega arith)
    (room_released _ (c.with_signed-answer.ensures.full full w (omega arith)
    (λ j. small_own w (λ set. assigned_signed true (take j c.args.lits.now) set) _ _ c.in_ok-deleted.deleted _ owns (small _ (adds j)))) c.release.ensures.released)
