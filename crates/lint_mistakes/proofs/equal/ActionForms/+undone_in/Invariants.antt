use Rattle.std.proofs.Common.{◌≡◌, drop}
use Rattle.sexpr_text.specs.Forest.{forest_of}
use Rattle.lint_mistakes.specs.Equal.{undone_in}
use Rattle.lint_mistakes.specs.Values.{action_value}
use Rattle.pddl_ast.proofs.Weights.{weight}
use Rattle.lint_mistakes.proofs.equal.ActionForms.+undone_in.Given as goal

abbrev pub invariant-loop-form : goal.invariant-loop-form
invariant-loop-form l =
    undone_in (action_value l.self) (forest_of l.deleted) (forest_of l.row) ≡ undone_in (action_value l.self) (forest_of l.deleted) (forest_of (drop l.form-index l.row))

abbrev pub decreases-undone_in : goal.decreases-undone_in
decreases-undone_in l = weight (forest_of l.row.now)
