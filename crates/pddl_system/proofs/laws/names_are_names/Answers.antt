use Rattle.pddl_system.proofs.NameLaws.{action_names_are_names, fluent_names_are_names}
use Rattle.pddl_system.proofs.laws.names_are_names.Goals as goal

pub returns-clause-fluents : goal.returns-clause-fluents
returns-clause-fluents c = fluent_names_are_names

pub returns-clause-actions : goal.returns-clause-actions
returns-clause-actions c = action_names_are_names
