use Rattle.controller_rules.proofs.Unlisted.{good_as_run}
use Rattle.controller_rules.proofs.laws.good_rules_control.Goals as goal

pub returns : goal.returns
returns c = λ class sys rules ok. good_as_run class sys ok rules
