use Rattle.dd_sets.proofs.NoRoomLemmas.{no_room_owned}
use Rattle.dd_sets.proofs.laws.no_room_within.Goals as goal

pub returns : goal.returns
returns c w before middle after mine most others rough owns sized none = no_room_owned w before middle after mine most others rough owns sized none
