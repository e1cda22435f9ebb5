use Rattle.dd_sets.proofs.NoRoomLemmas.{no_room_of_call}
use Rattle.dd_sets.proofs.laws.full_is_no_room.Goals as goal

pub returns : goal.returns
returns c w before after pieces full one vars limit rough = no_room_of_call w before after pieces full one vars limit rough
