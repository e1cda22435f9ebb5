use Rattle.mbp_top.proofs.RunLaws.{is_certified}
use Rattle.mbp_top.proofs.laws.printed_certificates_are_accepted.Goals as goal

pub returns : goal.returns
returns g c = λ run has. is_certified g.S.Shelf.held g.S.Shelf.faults g.S.Shelf.fetched run has c.accepted_certificates_mean_no_plan.ensures c.printed_where_none.ensures.accepted
