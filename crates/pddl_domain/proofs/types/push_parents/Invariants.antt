use Rattle.std.proofs.Common.{◌≡◌, ◌++◌, drop, map}
use Rattle.pddl_ast.specs.Environment.{group_value}
use Rattle.pddl_domain.specs.Types as specs
use Rattle.pddl_domain.proofs.types.push_parents.Given as goal

abbrev pub invariant-loop-group : goal.invariant-loop-group
invariant-loop-group l =
    l.initial.parents.items ++ specs.left_parents l.names (map group_value l.groups)
    ≡ l.parents.items ++ specs.left_parents l.names (map group_value (drop l.group-index l.groups))
