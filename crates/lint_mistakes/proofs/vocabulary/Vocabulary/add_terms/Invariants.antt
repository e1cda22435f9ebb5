use Rattle.std.proofs.Common.{◌≡◌, ◌++◌, length, map}
use Rattle.sexpr_text.specs.Forest.{forest_of}
use Rattle.lint_mistakes.specs.Values.{vocabulary_value}
use Rattle.lint_mistakes.specs.WrongTypes.{wrong_terms}
use Rattle.lint_mistakes.proofs.vocabulary.Vocabulary.add_terms.Given as goal

abbrev pub invariant-loop-declared : goal.invariant-loop-declared
invariant-loop-declared l =
    l.found.items ++ wrong_terms (vocabulary_value l.self) (map (λ row. forest_of row.now) l.scope) l.expected (forest_of l.rest)
    ≡ l.fn.found.items ++ wrong_terms (vocabulary_value l.self) (map (λ row. forest_of row.now) l.scope) l.types (forest_of l.terms)

abbrev pub decreases-loop-declared : goal.decreases-loop-declared
decreases-loop-declared l = length l.expected
