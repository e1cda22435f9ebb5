use Rattle.dd_sets.proofs.NoRoomLemmas.{no_room_more}
use Rattle.dd_sets.proofs.laws.no_room_of_fewer.Goals as goal

pub returns : goal.returns
returns c w before after few many fewer others more rougher none = no_room_more w before after few many fewer others more rougher none
