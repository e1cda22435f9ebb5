use Rattle.sexpr_text.proofs.PassLaws.{one_fault_by}
use Rattle.plan_rules.specs.Readings.{plan_passes}
use Rattle.plan_rules.proofs.Spelled.{plan_or_fault, plan_no_fault}
use Rattle.plan_rules.proofs.laws.plan_or_fault.Goals as goal

pub returns : goal.returns
returns c = record {
  answered = plan_or_fault;
  not_both = plan_no_fault;
  one_fault = λ fluents actions. one_fault_by (plan_passes fluents actions);
}
