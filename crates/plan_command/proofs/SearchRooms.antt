-- Room for a search after another call.
use Rattle.std.proofs.Common.{ℕ, [], arith}
use Rattle.dd_sets.specs.Frames.{Owns}
use Rattle.dd_sets.proofs.RoomSteps.{room_owned}
use Rattle.dd_sets.specs.LiveSets.{LiveSets}
use Rattle.dd_sets.specs.Rooms.{NoRoom}

-- where a call left the slots as they were, one that found no room after it found none before it
pub room_after : {w : ℕ} (before now : LiveSets) {after : LiveSets} (most others : ℕ) → Owns before now [] → NoRoom w most others now after → NoRoom w most others before after
room_after before now most others owns none = room_owned before now [] owns most most others 0 others tt (omega arith) (omega arith) none
