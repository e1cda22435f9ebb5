use Rattle.sexpr_text.proofs.PassLaws.{one_fault_by}
use Rattle.plan_certs.specs.Readings.{certificate_passes}
use Rattle.plan_certs.proofs.Spelled.{certificate_or_fault, certificate_no_fault}
use Rattle.plan_certs.proofs.laws.certificate_or_fault.Goals as goal

pub returns : goal.returns
returns c = record {
  answered = certificate_or_fault;
  not_both = certificate_no_fault;
  one_fault = λ fluents. one_fault_by (certificate_passes fluents);
}
