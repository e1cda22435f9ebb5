use Rattle.plan_check.proofs.VerdictLaws.{same_verdict}
use Rattle.plan_check.proofs.laws.one_verdict.Goals as goal

pub returns : goal.returns
returns c = same_verdict
