use Rattle.mbp_top.proofs.RunLaws.{quiet_sinks_are}
use Rattle.mbp_top.proofs.laws.sinks_stay_quiet.Goals as goal

pub returns : goal.returns
returns g c = λ run has. quiet_sinks_are g.S.Shelf.held g.S.Shelf.faults g.S.Shelf.fetched run has
