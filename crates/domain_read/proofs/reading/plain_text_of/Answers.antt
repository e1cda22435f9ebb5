use Rattle.domain_read.proofs.Through.{plain_faulty}
use Rattle.domain_read.proofs.reading.plain_text_of.Goals as goal

pub returns-clause-fault : goal.returns-clause-fault
returns-clause-fault c = plain_faulty c.args.bytes.now c.plain.result c.plain.ensures.fault
