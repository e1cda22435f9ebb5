use Rattle.std.proofs.Common.{◌≡◌, ◌++◌}
use Rattle.sexpr_text.specs.Forest.{forest_of}
use Rattle.lint_mistakes.specs.Copies.{repeated}
use Rattle.pddl_ast.proofs.Weights.{weight}
use Rattle.lint_mistakes.proofs.copies.add_repeated.Given as goal

abbrev pub invariant-loop-span : goal.invariant-loop-span
invariant-loop-span l =
    l.found.items ++ repeated (forest_of l.rest) ≡ l.fn.found.items ++ repeated (forest_of l.row)

abbrev pub decreases-loop-span : goal.decreases-loop-span
decreases-loop-span l = weight (forest_of l.rest)
