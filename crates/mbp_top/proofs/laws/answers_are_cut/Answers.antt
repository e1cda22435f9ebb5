use Rattle.mbp_top.proofs.RunLaws.{is_cut_off}
use Rattle.mbp_top.proofs.laws.answers_are_cut.Goals as goal

pub returns : goal.returns
returns g c = λ run has. is_cut_off g.S.Shelf.held g.S.Shelf.faults g.S.Shelf.fetched run has
