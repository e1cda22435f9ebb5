use Rattle.std.proofs.Common.{◌≡◌, take}
use Rattle.pddl_ast.specs.Fits.{names_of_objects}
use Rattle.pddl_ast.proofs.known.table_of_objects.Given as goal

abbrev pub invariant-loop-object : goal.invariant-loop-object
invariant-loop-object l = l.table ≡ take l.object-index (names_of_objects l.objects)
