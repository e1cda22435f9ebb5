use Rattle.plan_theory.proofs.PatrolRules.{acts_as_patrol, patrol_rules_within}
use Rattle.plan_theory.proofs.patrol_laws.printed_patrol_rules_act.Goals as goal

pub returns : goal.returns
returns c = record {
  acts = λ sys visits ok. acts_as_patrol sys visits ok;
  in_task = λ sys visits. patrol_rules_within sys visits;
}
