use Rattle.mbp_top.proofs.RunLaws.{is_answered}
use Rattle.mbp_top.proofs.laws.answers_are_whole.Goals as goal

pub returns : goal.returns
returns g c = λ run has. is_answered g.S.Shelf.held g.S.Shelf.faults g.S.Shelf.fetched run has
