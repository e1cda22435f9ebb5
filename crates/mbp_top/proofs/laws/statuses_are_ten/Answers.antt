use Rattle.mbp_top.proofs.RunLaws.{has_status}
use Rattle.mbp_top.proofs.laws.statuses_are_ten.Goals as goal

pub returns : goal.returns
returns g c = λ run has. has_status g.S.Shelf.held g.S.Shelf.faults g.S.Shelf.fetched run has
