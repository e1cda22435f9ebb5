use Rattle.std.proofs.Common.{◌≡◌, drop}
use Rattle.sexpr_text.specs.Forest.{forest_of}
use Rattle.lint_mistakes.specs.Places.{action_named}
use Rattle.lint_mistakes.proofs.places.action_named.Given as goal

abbrev pub invariant-loop-form : goal.invariant-loop-form
invariant-loop-form l = action_named l.name (forest_of l.sections) ≡ action_named l.name (forest_of (drop l.form-index l.sections))
