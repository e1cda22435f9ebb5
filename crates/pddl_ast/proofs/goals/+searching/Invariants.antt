use Rattle.std.proofs.Common.{◌≡◌, drop}
use Rattle.sexpr_text.specs.Forest.{forest_of}
use Rattle.pddl_ast.specs.Goals as goals
use Rattle.pddl_ast.proofs.Weights.{weight}
use Rattle.pddl_ast.proofs.goals.+searching.Given as goal

abbrev pub invariant-loop-form : goal.invariant-loop-form
invariant-loop-form l =
    goals.has_operator (forest_of l.row) ≡ goals.has_operator (forest_of (drop l.form-index l.row))

abbrev pub decreases-has_operator : goal.decreases-has_operator
decreases-has_operator l = weight (forest_of l.row.now)
