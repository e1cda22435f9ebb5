use Rattle.std.proofs.Common.{◌≡◌, drop}
use Rattle.sexpr_text.specs.Forest.{forest_of}
use Rattle.lint_mistakes.specs.NeverTrue.{adds}
use Rattle.pddl_ast.proofs.Weights.{weight}
use Rattle.lint_mistakes.proofs.never_true.+adding.Given as goal

abbrev pub invariant-adds-loop-form : goal.invariant-adds-loop-form
invariant-adds-loop-form l = adds l.name (forest_of l.row) ≡ adds l.name (forest_of (drop l.form-index l.row))

abbrev pub decreases-adds : goal.decreases-adds
decreases-adds l = weight (forest_of l.row.now)

abbrev pub decreases-effect_adds : goal.decreases-effect_adds
decreases-effect_adds l = weight (forest_of l.parts.now)

abbrev pub decreases-adds_after : goal.decreases-adds_after
decreases-adds_after l = weight (forest_of l.row.now)
