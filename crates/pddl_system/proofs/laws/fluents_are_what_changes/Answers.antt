use Rattle.pddl_system.proofs.States.{changed_atoms_are_fluents, fluents_differ, named_atoms_are_fluents, rigid_atoms_are_no_fluents}
use Rattle.pddl_system.proofs.laws.fluents_are_what_changes.Goals as goal

pub returns-clause-changed : goal.returns-clause-changed
returns-clause-changed c = changed_atoms_are_fluents

pub returns-clause-named : goal.returns-clause-named
returns-clause-named c = named_atoms_are_fluents

pub returns-clause-once : goal.returns-clause-once
returns-clause-once c = fluents_differ

pub returns-clause-rigid : goal.returns-clause-rigid
returns-clause-rigid c = rigid_atoms_are_no_fluents
