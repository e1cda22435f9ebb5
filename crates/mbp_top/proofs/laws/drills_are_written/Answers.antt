use Rattle.mbp_top.proofs.RunLaws.{is_drill}
use Rattle.mbp_top.proofs.laws.drills_are_written.Goals as goal

pub returns : goal.returns
returns g c = λ run has. is_drill g.S.Shelf.held g.S.Shelf.faults g.S.Shelf.fetched run has
