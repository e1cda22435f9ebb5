use Rattle.dd_sets.proofs.NoRoomLemmas.{no_room_tight}
use Rattle.dd_sets.proofs.laws.no_room_is_tight.Goals as goal

pub returns : goal.returns
returns c w before after most others none = no_room_tight w before after most others none
