use Rattle.std.proofs.Common.{◌≡◌, take}
use Rattle.pddl_ast.proofs.known.table_of_types.Given as goal

abbrev pub invariant-loop-name : goal.invariant-loop-name
invariant-loop-name l = l.table ≡ take l.name-index l.types
