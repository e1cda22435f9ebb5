use Rattle.plan_check.specs.ContextVerdicts.{IsTrueAt}
use Rattle.plan_check.proofs.ContextLaws.{same_context_verdict}
use Rattle.plan_check.proofs.laws.one_context_verdict.Goals as goal

pub returns : goal.returns
returns c = λ sys plan goal. same_context_verdict sys plan (IsTrueAt sys plan goal)
