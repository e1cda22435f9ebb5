use Rattle.mbp_top.proofs.RunLaws.{comes_to_drill}
use Rattle.mbp_top.proofs.laws.problems_are_drilled.Goals as goal

pub returns : goal.returns
returns g c = λ run has. comes_to_drill g.S.Shelf.held g.S.Shelf.faults g.S.Shelf.fetched run has c.texts_are_read_one_way.ensures
