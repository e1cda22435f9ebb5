use Rattle.mbp_top.proofs.Unread.{is_unread}
use Rattle.mbp_top.proofs.laws.unread_files_are_named.Goals as goal

pub returns : goal.returns
returns g c = λ run has. is_unread g.S.Shelf.held g.S.Shelf.faults g.S.Shelf.fetched run has
