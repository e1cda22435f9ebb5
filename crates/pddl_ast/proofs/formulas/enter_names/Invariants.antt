use Rattle.std.proofs.Common.{◌≡◌, ◌++◌}
use Rattle.pddl_ast.proofs.formulas.enter_names.Given as goal

abbrev pub invariant-loop-name : goal.invariant-loop-name
invariant-loop-name l = l.scope ≡ l.fn.scope ++ l.yielded
