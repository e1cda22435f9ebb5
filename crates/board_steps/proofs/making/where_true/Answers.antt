-- One operation that found no room.
use Rattle.std.proofs.Common.{subst, sym}
use Rattle.dd_ops.specs.Operations.{variable}
use Rattle.dd_sets.specs.LiveSets.{LiveSets}
use Rattle.dd_sets.specs.Rooms.{NoRoom, Rough}
use Rattle.dd_sets.proofs.RoomSteps.{room_for}
use Rattle.board_steps.proofs.making.where_true.Goals as goal

pub returns-clause-full : goal.returns-clause-full
returns-clause-full c full width rough =
    subst (λ (s : LiveSets). NoRoom width 0 0 s c.of_fluent.new.self) c.sets_mut.ensures.value
    (room_for _ _ _ (c.of_fluent.ensures.full full) c.of_fluent.ensures.kept.vars c.of_fluent.ensures.kept.limit 0 0
    (subst (λ (s : LiveSets). Rough s.vars width (variable c.args.f.0)) (sym c.sets_mut.ensures.value) rough))
