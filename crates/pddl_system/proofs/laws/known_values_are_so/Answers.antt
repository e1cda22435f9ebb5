use Rattle.pddl_system.proofs.States.{dropped_instances_never_run, impossible_changes_never_come, known_values_are_so}
use Rattle.pddl_system.proofs.laws.known_values_are_so.Goals as goal

pub returns-clause-formulas : goal.returns-clause-formulas
returns-clause-formulas c = known_values_are_so

pub returns-clause-instances : goal.returns-clause-instances
returns-clause-instances c = dropped_instances_never_run

pub returns-clause-changes : goal.returns-clause-changes
returns-clause-changes c = impossible_changes_never_come
