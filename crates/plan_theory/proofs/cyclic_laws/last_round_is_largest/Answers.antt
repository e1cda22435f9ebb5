use Rattle.plan_theory.specs.PairRounds.{kept, round}
use Rattle.plan_theory.proofs.RoundSteps.{rounds_end}
use Rattle.plan_theory.proofs.Survives.{last_is_largest}
use Rattle.plan_theory.proofs.cyclic_laws.last_round_is_largest.Goals as goal

pub returns-clause-exists : goal.returns-clause-exists
returns-clause-exists c = λ sys ok. let w = rounds_end sys in (kept sys (round sys w.0), last_is_largest sys ok w.0 w.2)

pub returns-clause-largest : goal.returns-clause-largest
returns-clause-largest c = λ sys r ok last. last_is_largest sys ok r last
