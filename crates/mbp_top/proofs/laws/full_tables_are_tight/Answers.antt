use Rattle.mbp_top.proofs.RunLaws.{is_full}
use Rattle.mbp_top.proofs.laws.full_tables_are_tight.Goals as goal

pub returns : goal.returns
returns g c = λ run has. is_full g.S.Shelf.held g.S.Shelf.faults g.S.Shelf.fetched run has
