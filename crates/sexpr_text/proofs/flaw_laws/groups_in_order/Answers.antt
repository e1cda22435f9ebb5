use Rattle.sexpr_text.proofs.GroupLaws.{groups-in_order}
use Rattle.sexpr_text.proofs.flaw_laws.groups_in_order.Goals as goal

pub returns : goal.returns
returns c = groups-in_order
