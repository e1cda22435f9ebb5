use Rattle.mbp_top.proofs.RunLaws.{is_acceptance}
use Rattle.mbp_top.proofs.laws.certificates_are_accepted.Goals as goal

pub returns : goal.returns
returns g c = λ run has. is_acceptance g.S.Shelf.held g.S.Shelf.faults g.S.Shelf.fetched run has c.accepted_certificates_mean_no_plan.ensures
