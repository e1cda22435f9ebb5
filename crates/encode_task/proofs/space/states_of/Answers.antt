-- A refusal shows that there was no room.
use Rattle.std.proofs.Common.{subst, sym}
use Rattle.dd_ops.specs.Operations.{and_of}
use Rattle.dd_sets.specs.LiveSets.{set_of}
use Rattle.dd_sets.specs.Rooms.{Rough}
use Rattle.dd_sets.proofs.RoomSteps.{room_for, room_released}
use Rattle.encode_task.proofs.space.states_of.Goals as goal

pub returns-clause-full : goal.returns-clause-full
returns-clause-full c full w rough =
    room_released _ (room_for _ _ _ (c.meet-states.ensures.full full) c.meet-states.ensures.kept.vars c.meet-states.ensures.kept.limit 0 0
    (subst (λ h. Rough c.args.sets.now.vars w (and_of h (set_of c.args.sets.now c.args.a.0))) (sym c.requires.space.holds) rough)) c.release.ensures.released
