use Rattle.std.proofs.Common.{◌≡◌, ◌++◌}
use Rattle.sexpr_text.specs.Forest.{forest_of}
use Rattle.lint_mistakes.specs.TermTypes.{term_types}
use Rattle.lint_mistakes.specs.Values.{vocabulary_value}
use Rattle.pddl_ast.proofs.Weights.{weight}
use Rattle.lint_mistakes.proofs.vocabulary.Vocabulary.push_types.Given as goal

abbrev pub invariant-loop-word : goal.invariant-loop-word
invariant-loop-word l =
    l.types.items ++ term_types (vocabulary_value l.self) (forest_of l.rest)
    ≡ l.fn.types.items ++ term_types (vocabulary_value l.self) (forest_of l.row)

abbrev pub decreases-loop-word : goal.decreases-loop-word
decreases-loop-word l = weight (forest_of l.rest)
