use Rattle.pddl_system.proofs.NamedAtoms.{effects_have_outcomes, named_atoms_are_changed}
use Rattle.pddl_system.proofs.laws.effects_name_what_they_change.Goals as goal

pub returns-clause-outcomes : goal.returns-clause-outcomes
returns-clause-outcomes c = effects_have_outcomes

pub returns-clause-atoms : goal.returns-clause-atoms
returns-clause-atoms c = named_atoms_are_changed
