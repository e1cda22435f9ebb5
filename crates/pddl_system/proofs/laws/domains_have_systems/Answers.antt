use Rattle.pddl_system.proofs.States.{executable_where_precondition_holds, outcomes_are_numbered, they_have_a_system}
use Rattle.pddl_system.proofs.laws.domains_have_systems.Goals as goal

pub returns-clause-system : goal.returns-clause-system
returns-clause-system c = they_have_a_system

pub returns-clause-numbered : goal.returns-clause-numbered
returns-clause-numbered c = outcomes_are_numbered

pub returns-clause-executable : goal.returns-clause-executable
returns-clause-executable c = executable_where_precondition_holds
