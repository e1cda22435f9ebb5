use Rattle.mbp_top.proofs.RunLaws.{is_no}
use Rattle.mbp_top.proofs.laws.reasons_come_at_no.Goals as goal

pub returns : goal.returns
returns g c = λ run has. is_no g.S.Shelf.held g.S.Shelf.faults g.S.Shelf.fetched run has
