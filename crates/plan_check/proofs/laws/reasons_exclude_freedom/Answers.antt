use Rattle.plan_check.proofs.VerdictLaws.{excludes}
use Rattle.plan_check.proofs.laws.reasons_exclude_freedom.Goals as goal

pub returns : goal.returns
returns c = λ sys rules class reason. excludes sys rules reason class
