use Rattle.mbp_top.proofs.RunLaws.{is_full_drill}
use Rattle.mbp_top.proofs.laws.full_drills_are_tight.Goals as goal

pub returns : goal.returns
returns g c = λ run has. is_full_drill g.S.Shelf.held g.S.Shelf.faults g.S.Shelf.fetched run has
