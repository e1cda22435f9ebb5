use Rattle.std.proofs.Common.{◌≡◌, drop}
use Rattle.sexpr_text.specs.Forest.{forest_of}
use Rattle.lint_mistakes.specs.NeverUsed.{mentions}
use Rattle.pddl_ast.proofs.Weights.{weight}
use Rattle.lint_mistakes.proofs.uses.+mentions.Given as goal

abbrev pub invariant-loop-form : goal.invariant-loop-form
invariant-loop-form l = mentions l.name (forest_of l.row) ≡ mentions l.name (forest_of (drop l.form-index l.row))

abbrev pub decreases-mentions : goal.decreases-mentions
decreases-mentions l = weight (forest_of l.row.now)
