use Rattle.plan_certs.proofs.NoWayOut.{no_solution}
use Rattle.plan_certs.proofs.laws.accepted_certificates_mean_no_plan.Goals as goal

pub returns : goal.returns
returns c = no_solution
