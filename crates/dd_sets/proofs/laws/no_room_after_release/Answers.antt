use Rattle.dd_sets.proofs.NoRoomLemmas.{no_room_released}
use Rattle.dd_sets.proofs.laws.no_room_after_release.Goals as goal

pub returns : goal.returns
returns c w before middle after slot most others none ended = no_room_released w before middle after slot most others none ended
