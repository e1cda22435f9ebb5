use Rattle.std.proofs.Common.{◌≡◌, drop}
use Rattle.sexpr_text.specs.Forest.{forest_of}
use Rattle.lint_mistakes.specs.NeverTrue.{asserts}
use Rattle.pddl_ast.proofs.Weights.{weight}
use Rattle.lint_mistakes.proofs.never_true.+asserting.Given as goal

abbrev pub invariant-asserts-loop-form : goal.invariant-asserts-loop-form
invariant-asserts-loop-form l = asserts l.name (forest_of l.row) ≡ asserts l.name (forest_of (drop l.form-index l.row))

abbrev pub decreases-asserts : goal.decreases-asserts
decreases-asserts l = weight (forest_of l.row.now)

abbrev pub decreases-list_asserts : goal.decreases-list_asserts
decreases-list_asserts l = weight (forest_of l.parts.now)
