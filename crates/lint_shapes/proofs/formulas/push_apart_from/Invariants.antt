-- What is added, and what the others that are left say, are together the whole.
use Rattle.std.proofs.Common.{◌≡◌, ◌++◌, drop, map}
use Rattle.pddl_ast.specs.Values.{formula_value}
use Rattle.lint_shapes.specs.Formulas.{apart}
use Rattle.lint_shapes.proofs.formulas.push_apart_from.Given as goal

abbrev pub invariant-loop-other : goal.invariant-loop-other
invariant-loop-other l = map formula_value l.all.items ++ map (apart l.free l.part) (drop l.other-index l.others) ≡ map formula_value l.fn.all.items ++ map (apart l.free l.part) l.others
