use Rattle.std.proofs.Common.{◌≡◌, ◌++◌, drop}
use Rattle.sexpr_text.specs.Forest.{forest_of}
use Rattle.lint_mistakes.specs.Equal.{equal_in_row}
use Rattle.lint_mistakes.specs.Values.{action_value}
use Rattle.pddl_ast.proofs.Weights.{weight}
use Rattle.lint_mistakes.proofs.equal.ActionForms.+walking.Given as goal

abbrev pub invariant-add_in_row-loop-form : goal.invariant-add_in_row-loop-form
invariant-add_in_row-loop-form l =
    l.found.items ++ equal_in_row (action_value l.self) (forest_of (drop l.form-index l.row)) ≡ l.fn.found.items ++ equal_in_row (action_value l.self) (forest_of l.row)

abbrev pub decreases-add_in_row : goal.decreases-add_in_row
decreases-add_in_row l = weight (forest_of l.row.now)

abbrev pub decreases-add_in_effect : goal.decreases-add_in_effect
decreases-add_in_effect l = weight (forest_of l.parts.now)
