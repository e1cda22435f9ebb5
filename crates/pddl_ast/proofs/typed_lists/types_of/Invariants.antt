use Rattle.std.proofs.Common.{◌≡◌, take, map}
use Rattle.pddl_ast.specs.TypedLists as lists
use Rattle.pddl_ast.specs.Environment.{group_value}
use Rattle.pddl_ast.proofs.typed_lists.types_of.Given as goal

abbrev pub invariant-loop-group : goal.invariant-loop-group
invariant-loop-group l = l.numbers.items ≡ lists.types_of l.types (map group_value (take l.group-index l.groups))
