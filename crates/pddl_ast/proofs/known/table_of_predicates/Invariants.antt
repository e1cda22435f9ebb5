use Rattle.std.proofs.Common.{◌≡◌, take}
use Rattle.pddl_ast.specs.Fits.{names_of_predicates}
use Rattle.pddl_ast.proofs.known.table_of_predicates.Given as goal

abbrev pub invariant-loop-predicate : goal.invariant-loop-predicate
invariant-loop-predicate l = l.table ≡ take l.predicate-index (names_of_predicates l.predicates)
