use Rattle.std.proofs.Common.{◌≡◌, drop}
use Rattle.sexpr_text.specs.Forest.{forest_of}
use Rattle.lint_mistakes.specs.NeverUsed.{domain_uses}
use Rattle.lint_mistakes.proofs.uses.domain_uses.Given as goal

abbrev pub invariant-loop-form : goal.invariant-loop-form
invariant-loop-form l =
    domain_uses l.name (forest_of l.sections) ≡ domain_uses l.name (forest_of (drop l.form-index l.sections))
