-- One operation that found no room.
use Rattle.std.proofs.Common.{subst, sym}
use Rattle.dd_ops.specs.Operations.{cofactor_of}
use Rattle.dd_sets.specs.LiveSets.{LiveSets, set_of}
use Rattle.dd_sets.specs.Rooms.{NoRoom, Rough}
use Rattle.dd_sets.proofs.RoomSteps.{room_for}
use Rattle.board_steps.proofs.making.once_fixed.Goals as goal

pub returns-clause-full : goal.returns-clause-full
returns-clause-full c full width rough =
    subst (λ (s : LiveSets). NoRoom width 0 0 s c.cofactor.new.self) c.sets_mut.ensures.value
    (room_for _ _ _ (c.cofactor.ensures.full full) c.cofactor.ensures.kept.vars c.cofactor.ensures.kept.limit 0 0
    (subst (λ (s : LiveSets). Rough s.vars width (cofactor_of (set_of s c.args.a.0) c.args.f.0 c.args.value)) (sym c.sets_mut.ensures.value) rough))
