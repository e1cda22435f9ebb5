use Rattle.std.proofs.Common.{◌≡◌, ◌++◌, drop}
use Rattle.sexpr_text.specs.Forest.{forest_of}
use Rattle.lint_mistakes.specs.Values.{vocabulary_value}
use Rattle.lint_mistakes.specs.WrongTypes.{wrong_in_sections}
use Rattle.lint_mistakes.proofs.wrong_types.wrong_types_in_domain.Given as goal

abbrev pub invariant-loop-form : goal.invariant-loop-form
invariant-loop-form l =
    l.found.items ++ wrong_in_sections (vocabulary_value l.words) (forest_of (drop l.form-index l.sections))
    ≡ wrong_in_sections (vocabulary_value l.words) (forest_of l.sections)
