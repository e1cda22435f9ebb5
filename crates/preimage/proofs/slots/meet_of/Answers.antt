-- A refusal shows that there was no room.
use Rattle.dd_sets.proofs.RoomSteps.{room_for, room_released}
use Rattle.preimage.proofs.slots.meet_of.Goals as goal

pub returns-clause-full : goal.returns-clause-full
returns-clause-full c full width rough = room_released _ (room_for _ _ _ (c.meet-met.ensures.full full) c.meet-met.ensures.kept.vars c.meet-met.ensures.kept.limit 0 0 rough) c.release.ensures.released
