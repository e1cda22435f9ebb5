use Rattle.std.proofs.Common.{◌≡◌, drop}
use Rattle.sexpr_text.specs.Forest.{forest_of}
use Rattle.lint_mistakes.specs.NeverTrue.{domain_adds}
use Rattle.lint_mistakes.proofs.never_true.domain_adds.Given as goal

abbrev pub invariant-loop-form : goal.invariant-loop-form
invariant-loop-form l = domain_adds l.name (forest_of l.sections) ≡ domain_adds l.name (forest_of (drop l.form-index l.sections))
