use Rattle.domain_read.proofs.Through.{read_spelled, read_faulty}
use Rattle.domain_read.proofs.reading.read_plain.Goals as goal

pub returns-clause-domain : goal.returns-clause-domain
returns-clause-domain c b p = read_spelled b c.args.text.now p c.read_domain.result c.read_domain.ensures.domain

pub returns-clause-fault : goal.returns-clause-fault
returns-clause-fault c b p = read_faulty b c.args.text.now p c.read_domain.result c.read_domain.ensures.fault
