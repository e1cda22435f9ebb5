use Rattle.std.proofs.Common.{◌≡◌, ◌≤◌}
use Rattle.sexpr_text.specs.Forest.{forest_of}
use Rattle.lint_mistakes.specs.Copies.{same_words}
use Rattle.pddl_ast.proofs.Weights.{weight}
use Rattle.lint_mistakes.proofs.copies.+same_words.Given as goal

abbrev pub invariant-loop-span : goal.invariant-loop-span
invariant-loop-span l = record {
  same : same_words (forest_of l.row) (forest_of l.other) ≡ same_words (forest_of l.rest) (forest_of l.others);
  less : weight (forest_of l.rest) ≤ weight (forest_of l.row);
}

abbrev pub decreases-loop-span : goal.decreases-loop-span
decreases-loop-span l = weight (forest_of l.rest)

abbrev pub decreases-same_words : goal.decreases-same_words
decreases-same_words l = weight (forest_of l.row.now)
