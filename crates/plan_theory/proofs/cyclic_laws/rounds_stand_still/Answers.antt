use Rattle.plan_theory.proofs.RoundSteps.{later_rounds, rounds_end}
use Rattle.plan_theory.proofs.cyclic_laws.rounds_stand_still.Goals as goal

pub returns-clause-later : goal.returns-clause-later
returns-clause-later c = λ sys r m ok still le v is. later_rounds sys r ok still m le v is

pub returns-clause-at_last : goal.returns-clause-at_last
returns-clause-at_last c = λ sys. rounds_end sys
