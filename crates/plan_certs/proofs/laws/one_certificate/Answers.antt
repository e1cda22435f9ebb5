use Rattle.plan_certs.proofs.Spelled.{one_certificate}
use Rattle.plan_certs.proofs.laws.one_certificate.Goals as goal

pub returns : goal.returns
returns c = one_certificate
