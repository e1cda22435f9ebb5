use Rattle.pddl_ast.proofs.ListFitting.{objects-seen, variables-seen, predicates-seen}
use Rattle.pddl_ast.proofs.laws.names_are_added.Goals as goal

pub returns : goal.returns
returns c = record { objects = objects-seen; variables = variables-seen; predicate_variables = predicates-seen }
