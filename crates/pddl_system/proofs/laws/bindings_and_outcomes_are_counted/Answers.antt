use Rattle.pddl_system.proofs.Counts.{bindings_are_counted, outcomes_are_counted}
use Rattle.pddl_system.proofs.laws.bindings_and_outcomes_are_counted.Goals as goal

pub returns-clause-bindings : goal.returns-clause-bindings
returns-clause-bindings c = bindings_are_counted

pub returns-clause-outcomes : goal.returns-clause-outcomes
returns-clause-outcomes c = outcomes_are_counted
