use Rattle.pddl_system.proofs.SortedFluents.{fluents_are_sorted, named_atoms_are_no_more, named_atoms_in_order_are_fluents, named_atoms_make_fluents}
use Rattle.pddl_system.proofs.laws.named_atoms_are_the_fluents.Goals as goal

pub returns-clause-named : goal.returns-clause-named
returns-clause-named c = named_atoms_make_fluents

pub returns-clause-listed : goal.returns-clause-listed
returns-clause-listed c = named_atoms_in_order_are_fluents

pub returns-clause-count : goal.returns-clause-count
returns-clause-count c = named_atoms_are_no_more

pub returns-clause-sorted : goal.returns-clause-sorted
returns-clause-sorted c = fluents_are_sorted
