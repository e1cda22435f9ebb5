use Rattle.reachable_part.proofs.Carrying.{reached_over, solutions_over}
use Rattle.reachable_part.proofs.Counterparts.{none_over, tables_over}
use Rattle.reachable_part.proofs.laws.solutions_carry_over.Goals as goal

pub returns-clause-solutions : goal.returns-clause-solutions
returns-clause-solutions c = solutions_over

pub returns-clause-tables : goal.returns-clause-tables
returns-clause-tables c = tables_over

pub returns-clause-none : goal.returns-clause-none
returns-clause-none c = none_over

pub returns-clause-reached : goal.returns-clause-reached
returns-clause-reached c = reached_over
