use Rattle.mbp_top.proofs.RunLaws.{quiet_shelf_is}
use Rattle.mbp_top.proofs.laws.shelves_stay_quiet.Goals as goal

pub returns : goal.returns
returns g c = λ run has. quiet_shelf_is g.S.Shelf.held g.S.Shelf.faults g.S.Shelf.fetched run has
