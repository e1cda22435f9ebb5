use Rattle.domain_read.proofs.Exact.{shares_exact}
use Rattle.domain_read.proofs.plain_laws.weights_are_exact.Goals as goal

pub returns : goal.returns
returns c = shares_exact
