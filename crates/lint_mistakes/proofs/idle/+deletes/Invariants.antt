use Rattle.std.proofs.Common.{◌≡◌, drop}
use Rattle.sexpr_text.specs.Forest.{forest_of}
use Rattle.lint_mistakes.specs.Idle.{deletes}
use Rattle.pddl_ast.proofs.Weights.{weight}
use Rattle.lint_mistakes.proofs.idle.+deletes.Given as goal

abbrev pub invariant-loop-form : goal.invariant-loop-form
invariant-loop-form l = deletes l.word (forest_of l.row) ≡ deletes l.word (forest_of (drop l.form-index l.row))

abbrev pub decreases-deletes : goal.decreases-deletes
decreases-deletes l = weight (forest_of l.row.now)
