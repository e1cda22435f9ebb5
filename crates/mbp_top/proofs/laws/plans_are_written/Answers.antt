use Rattle.mbp_top.proofs.RunLaws.{is_plan}
use Rattle.mbp_top.proofs.laws.plans_are_written.Goals as goal

pub returns : goal.returns
returns g c = λ run has. is_plan g.S.Shelf.held g.S.Shelf.faults g.S.Shelf.fetched run has
