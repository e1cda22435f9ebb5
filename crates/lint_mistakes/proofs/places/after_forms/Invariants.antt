use Rattle.std.proofs.Common.{◌≡◌}
use Rattle.sexpr_text.specs.Forest.{forest_of}
use Rattle.lint_mistakes.specs.Places.{after_forms}
use Rattle.lint_mistakes.proofs.places.after_forms.Given as goal

abbrev pub invariant-loop-number : goal.invariant-loop-number
invariant-loop-number l = forest_of l.rest ≡ after_forms l.number (forest_of l.row)
