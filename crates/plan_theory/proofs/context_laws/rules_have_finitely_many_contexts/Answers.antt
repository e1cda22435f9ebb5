use Rattle.plan_theory.proofs.FiniteContexts.{finitely_many}
use Rattle.plan_theory.proofs.context_laws.rules_have_finitely_many_contexts.Goals as goal

pub returns : goal.returns
returns c = record { finite = λ rules. finitely_many rules }
