use Rattle.plan_certs.proofs.Verdicts.{answered, not_both}
use Rattle.plan_certs.proofs.laws.one_verdict.Goals as goal

pub returns : goal.returns
returns c = record { answered = answered; not_both = not_both }
