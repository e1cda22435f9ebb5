use Rattle.std.proofs.Common.{◌≡◌, map}
use Rattle.pddl_ast.specs.Environment.{group_value}
use Rattle.pddl_ast.specs.TypedLists.{objects_of}
use Rattle.pddl_ast.proofs.typed_lists.objects_of.Given as goal

abbrev pub invariant-loop-group : goal.invariant-loop-group
invariant-loop-group l = l.objects.items ≡ objects_of l.types (map group_value l.yielded)
