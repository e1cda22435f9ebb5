-- What is made, and what the shapes that are left say, are together the whole.
use Rattle.std.proofs.Common.{◌≡◌, ◌++◌, drop, map}
use Rattle.pddl_ast.specs.Values.{formula_value}
use Rattle.lint_shapes.specs.Formulas.{formula_of}
use Rattle.lint_shapes.specs.declared.shapes.OneOf.{OneOf}
use Rattle.lint_shapes.proofs.formulas.formulas_of.Given as goal

abbrev pub invariant-loop-one : goal.invariant-loop-one
invariant-loop-one l =
    map formula_value l.formulas.items ++ map formula_of (map (λ (one : OneOf). one.shape) (drop l.one-index l.found))
    ≡ map formula_of (map (λ (one : OneOf). one.shape) l.found)
