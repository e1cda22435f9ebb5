use Rattle.counterexamples.proofs.Forever.{never_end}
use Rattle.counterexamples.proofs.laws.context_plans_never_end.Goals as goal

pub returns : goal.returns
returns c = never_end
