use Rattle.std.proofs.Common.{◌≡◌}
use Rattle.sexpr_text.specs.Forest.{forest_of}
use Rattle.lint_mistakes.specs.Equal.{difference}
use Rattle.pddl_ast.proofs.Weights.{weight}
use Rattle.lint_mistakes.proofs.alike.difference.Given as goal

abbrev pub invariant-loop-kept_span : goal.invariant-loop-kept_span
invariant-loop-kept_span l = difference (forest_of l.row) (forest_of l.other) ≡ difference (forest_of l.rest) (forest_of l.others)

abbrev pub decreases-loop-kept_span : goal.decreases-loop-kept_span
decreases-loop-kept_span l = weight (forest_of l.rest)
