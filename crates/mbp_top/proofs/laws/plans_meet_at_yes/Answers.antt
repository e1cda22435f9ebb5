use Rattle.mbp_top.proofs.RunLaws.{is_yes}
use Rattle.mbp_top.proofs.laws.plans_meet_at_yes.Goals as goal

pub returns : goal.returns
returns g c = λ run has. is_yes g.S.Shelf.held g.S.Shelf.faults g.S.Shelf.fetched run has c.yes_is_solution.ensures
