use Rattle.plan_rules.proofs.Spelled.{printed_spells}
use Rattle.plan_rules.proofs.laws.printed_spells.Goals as goal

pub returns : goal.returns
returns c = printed_spells
