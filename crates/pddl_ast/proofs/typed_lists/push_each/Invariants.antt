use Rattle.std.proofs.Common.{◌≡◌, ◌++◌, take, map}
use Rattle.pddl_ast.proofs.typed_lists.push_each.Given as goal

abbrev pub invariant-loop : goal.invariant-loop
invariant-loop l = l.numbers.items ≡ l.fn.numbers.items ++ map (λ name. l.number) (take l.index l.names)
