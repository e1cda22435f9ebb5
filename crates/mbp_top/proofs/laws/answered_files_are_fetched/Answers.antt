use Rattle.mbp_top.proofs.AllFetched.{are_all_fetched}
use Rattle.mbp_top.proofs.laws.answered_files_are_fetched.Goals as goal

pub returns : goal.returns
returns g c = λ run has. are_all_fetched g.S.Shelf.held g.S.Shelf.faults g.S.Shelf.fetched run has
