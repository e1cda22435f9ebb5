use Rattle.plan_certs.proofs.Spelled.{written_spells}
use Rattle.plan_certs.proofs.laws.written_spells.Goals as goal

pub returns : goal.returns
returns c = written_spells
