use Rattle.std.proofs.Common.{◌≡◌, ◌++◌, map}
use Rattle.pddl_ast.specs.TypedLists.{names_of}
use Rattle.pddl_ast.specs.Environment.{group_value}
use Rattle.pddl_ast.proofs.formulas.enter_groups.Given as goal

abbrev pub invariant-loop-group : goal.invariant-loop-group
invariant-loop-group l = l.scope ≡ l.fn.scope ++ names_of (map group_value l.yielded)
