use Rattle.plan_theory.proofs.UntilRules.{acts_as_until, until_rules_within}
use Rattle.plan_theory.proofs.until_laws.printed_until_rules_act.Goals as goal

pub returns : goal.returns
returns c = record {
  acts = λ sys chain ok. acts_as_until sys chain ok;
  in_task = λ sys chain. until_rules_within sys chain;
}
