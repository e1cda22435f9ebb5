use Rattle.std.proofs.Common.{arith}
use Rattle.plan_theory.proofs.UntilTowards.{advance-last, chain_acts, win_at-advance}
use Rattle.plan_theory.proofs.until_laws.until_actions_lead_on.Goals as goal

pub returns-clause-context : goal.returns-clause-context
returns-clause-context c = λ sys chain c v first last. (omega arith, advance-last sys chain c v first last)

pub returns-clause-wins : goal.returns-clause-wins
returns-clause-wins c = λ sys chain c v first h. win_at-advance sys chain c v first h

pub returns-clause-leads : goal.returns-clause-leads
returns-clause-leads c = λ sys chain c v ok is first h. let a = chain_acts sys chain c v first ok is h in (a.action, a.chosen, a.leads)
