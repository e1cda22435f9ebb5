use Rattle.std.proofs.Common.{◌≡◌}
use Rattle.sexpr_text.specs.Forest.{forest_of}
use Rattle.lint_mistakes.specs.Rows.{list_after}
use Rattle.pddl_ast.proofs.Weights.{weight}
use Rattle.lint_mistakes.proofs.rows.list_after.Given as goal

abbrev pub invariant-loop-text : goal.invariant-loop-text
invariant-loop-text l = list_after l.word (forest_of l.row) ≡ list_after l.word (forest_of l.rest)

abbrev pub decreases-loop-text : goal.decreases-loop-text
decreases-loop-text l = weight (forest_of l.rest)
