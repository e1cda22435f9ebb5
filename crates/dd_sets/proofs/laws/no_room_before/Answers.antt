use Rattle.dd_sets.proofs.RoomSteps.{room_before}
use Rattle.dd_sets.proofs.laws.no_room_before.Goals as goal

pub returns : goal.returns
returns c w before middle after few many others kept room small none = room_before before middle kept few many others room small none
