use Rattle.std.proofs.Common.{◌≡◌}
use Rattle.sexpr_text.specs.Forest.{forest_of}
use Rattle.lint_mistakes.specs.TermTypes.{type_after}
use Rattle.lint_mistakes.specs.Values.{vocabulary_value}
use Rattle.pddl_ast.proofs.Weights.{weight}
use Rattle.lint_mistakes.proofs.vocabulary.Vocabulary.type_after.Given as goal

abbrev pub invariant-loop-word : goal.invariant-loop-word
invariant-loop-word l =
    type_after (vocabulary_value l.self) (forest_of l.row) ≡ type_after (vocabulary_value l.self) (forest_of l.rest)

abbrev pub decreases-loop-word : goal.decreases-loop-word
decreases-loop-word l = weight (forest_of l.rest)
