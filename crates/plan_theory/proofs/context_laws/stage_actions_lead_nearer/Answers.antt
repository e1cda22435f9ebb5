use Rattle.plan_theory.proofs.StageSets.{action-next, no_action-met, no_action-outside}
use Rattle.plan_theory.proofs.context_laws.stage_actions_lead_nearer.Goals as goal

pub returns-clause-next : goal.returns-clause-next
returns-clause-next c = λ sys met k v ok is inside outside. action-next sys met ok k v is inside outside

pub returns-clause-met : goal.returns-clause-met
returns-clause-met c = λ sys met v h. no_action-met sys met v h

pub returns-clause-outside : goal.returns-clause-outside
returns-clause-outside c = λ sys met v h. no_action-outside sys met v h
