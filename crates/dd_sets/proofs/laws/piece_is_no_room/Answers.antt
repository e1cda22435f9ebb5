use Rattle.dd_sets.proofs.NoRoomLemmas.{no_room_of_piece}
use Rattle.dd_sets.proofs.laws.piece_is_no_room.Goals as goal

pub returns : goal.returns
returns c w before after piece full vars limit rough = no_room_of_piece w before after piece full vars limit rough
