use Rattle.mbp_top.proofs.RunLaws.{is_rejection}
use Rattle.mbp_top.proofs.laws.certificates_are_rejected.Goals as goal

pub returns : goal.returns
returns g c = λ run has. is_rejection g.S.Shelf.held g.S.Shelf.faults g.S.Shelf.fetched run has
