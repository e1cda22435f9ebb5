-- One operation that found no room.
use Rattle.std.proofs.Common.{subst, sym}
use Rattle.dd_ops.specs.Operations.{minus_of}
use Rattle.dd_sets.specs.LiveSets.{LiveSets, set_of}
use Rattle.dd_sets.specs.Rooms.{NoRoom, Rough}
use Rattle.dd_sets.specs.declared.slots.SetId.{SetId}
use Rattle.dd_sets.proofs.RoomSteps.{room_for}
use Rattle.slot_board.proofs.board.holds_initial.Goals as goal

pub returns-clause-full : goal.returns-clause-full
returns-clause-full c full width rough =
    subst (λ (s : LiveSets). NoRoom width 0 0 s c.inside.new.self) c.sets_mut.ensures.value
    (room_for _ _ _ (c.inside.ensures.full full) c.inside.ensures.kept.vars c.inside.ensures.kept.limit 0 0
    (subst (λ (s : LiveSets). Rough s.vars width (minus_of (set_of s c.initial-initial.result.0) (set_of s c.args.set.0))) (sym c.sets_mut.ensures.value)
    (subst (λ (i : SetId). Rough c.args.enc.now.sets.vars width (minus_of (set_of c.args.enc.now.sets i.0) (set_of c.args.enc.now.sets c.args.set.0))) (sym c.initial-initial.ensures) rough)))
