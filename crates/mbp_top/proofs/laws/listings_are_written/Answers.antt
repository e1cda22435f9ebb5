use Rattle.mbp_top.proofs.RunLaws.{is_listing}
use Rattle.mbp_top.proofs.laws.listings_are_written.Goals as goal

pub returns : goal.returns
returns g c = λ run has. is_listing g.S.Shelf.held g.S.Shelf.faults g.S.Shelf.fetched run has
