-- What is made, and what the parts that are left say, are together the whole.
use Rattle.std.proofs.Common.{◌≡◌, ◌++◌, drop, map}
use Rattle.pddl_ast.specs.Values.{formula_value}
use Rattle.lint_shapes.specs.Formulas.{some_of}
use Rattle.lint_shapes.proofs.formulas.each_true.Given as goal

abbrev pub invariant-loop-part : goal.invariant-loop-part
invariant-loop-part l = map formula_value l.formulas.items ++ map (some_of l.free) (drop l.part-index l.parts) ≡ map (some_of l.free) l.parts
