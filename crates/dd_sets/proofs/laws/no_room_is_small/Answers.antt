use Rattle.dd_sets.proofs.NoRoomLemmas.{no_room_small}
use Rattle.dd_sets.proofs.laws.no_room_is_small.Goals as goal

pub returns : goal.returns
returns c w before after most others none fluents = no_room_small w before after most others none fluents
