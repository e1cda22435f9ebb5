use Rattle.mbp_top.proofs.RunLaws.{is_full_refutation}
use Rattle.mbp_top.proofs.laws.full_refutations_are_tight.Goals as goal

pub returns : goal.returns
returns g c = λ run has. is_full_refutation g.S.Shelf.held g.S.Shelf.faults g.S.Shelf.fetched run has
