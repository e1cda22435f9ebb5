use Rattle.std.proofs.Common.{◌≡◌, ◌++◌, drop}
use Rattle.sexpr_text.specs.Forest.{forest_of}
use Rattle.lint_mistakes.specs.Copies.{copies_in}
use Rattle.pddl_ast.proofs.Weights.{weight}
use Rattle.lint_mistakes.proofs.copies.+add_copies.Given as goal

abbrev pub invariant-loop-form : goal.invariant-loop-form
invariant-loop-form l =
    l.found.items ++ copies_in (forest_of (drop l.form-index l.row)) ≡ l.fn.found.items ++ copies_in (forest_of l.row)

abbrev pub decreases-add_copies : goal.decreases-add_copies
decreases-add_copies l = weight (forest_of l.row.now)
