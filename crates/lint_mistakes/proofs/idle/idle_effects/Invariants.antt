use Rattle.std.proofs.Common.{◌≡◌, ◌++◌, drop}
use Rattle.sexpr_text.specs.Forest.{forest_of}
use Rattle.lint_mistakes.specs.Idle.{idle_in_sections}
use Rattle.lint_mistakes.proofs.idle.idle_effects.Given as goal

abbrev pub invariant-loop-form : goal.invariant-loop-form
invariant-loop-form l =
    l.found.items ++ idle_in_sections (forest_of (drop l.form-index l.sections)) ≡ idle_in_sections (forest_of l.sections)
