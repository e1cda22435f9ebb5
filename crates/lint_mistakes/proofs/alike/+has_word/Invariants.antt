use Rattle.std.proofs.Common.{◌≡◌, ◌≤◌}
use Rattle.sexpr_text.specs.Forest.{forest_of}
use Rattle.lint_mistakes.specs.Equal.{has_word}
use Rattle.pddl_ast.proofs.Weights.{weight}
use Rattle.lint_mistakes.proofs.alike.+has_word.Given as goal

abbrev pub invariant-loop-span : goal.invariant-loop-span
invariant-loop-span l = record {
  same : has_word l.name (forest_of l.row) ≡ has_word l.name (forest_of l.rest);
  less : weight (forest_of l.rest) ≤ weight (forest_of l.row);
}

abbrev pub decreases-loop-span : goal.decreases-loop-span
decreases-loop-span l = weight (forest_of l.rest)

abbrev pub decreases-has_word : goal.decreases-has_word
decreases-has_word l = weight (forest_of l.row.now)
