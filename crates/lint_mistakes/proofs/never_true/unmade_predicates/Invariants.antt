use Rattle.std.proofs.Common.{◌≡◌, ◌++◌, drop}
use Rattle.sexpr_text.specs.Forest.{forest_of}
use Rattle.lint_mistakes.specs.NeverTrue.{unmade_in_row}
use Rattle.lint_mistakes.proofs.never_true.unmade_predicates.Given as goal

abbrev pub invariant-loop-form : goal.invariant-loop-form
invariant-loop-form l =
    l.found.items ++ unmade_in_row (forest_of l.domain) (forest_of l.problem) (forest_of (drop l.form-index l.declared))
    ≡ unmade_in_row (forest_of l.domain) (forest_of l.problem) (forest_of l.declared)
