use Rattle.std.proofs.Common.{◌≡◌, ◌++◌, map}
use Rattle.pddl_ast.specs.TypedLists.{of_type}
use Rattle.pddl_ast.proofs.typed_lists.push_objects.Given as goal

abbrev pub invariant-loop-name : goal.invariant-loop-name
invariant-loop-name l = l.objects.items ≡ l.initial.objects.items ++ map (of_type l.type_id) l.yielded
