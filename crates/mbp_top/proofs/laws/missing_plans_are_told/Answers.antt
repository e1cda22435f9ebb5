use Rattle.mbp_top.proofs.RunLaws.{is_no_plan}
use Rattle.mbp_top.proofs.laws.missing_plans_are_told.Goals as goal

pub returns : goal.returns
returns g c = λ run has. is_no_plan g.S.Shelf.held g.S.Shelf.faults g.S.Shelf.fetched run has
