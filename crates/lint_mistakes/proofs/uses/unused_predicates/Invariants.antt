use Rattle.std.proofs.Common.{◌≡◌, ◌++◌, drop}
use Rattle.sexpr_text.specs.Forest.{forest_of}
use Rattle.lint_mistakes.specs.NeverUsed.{unused_in_row}
use Rattle.lint_mistakes.proofs.uses.unused_predicates.Given as goal

abbrev pub invariant-loop-form : goal.invariant-loop-form
invariant-loop-form l =
    l.found.items ++ unused_in_row (forest_of l.domain) (forest_of l.problem) (forest_of (drop l.form-index l.declared))
    ≡ unused_in_row (forest_of l.domain) (forest_of l.problem) (forest_of l.declared)
