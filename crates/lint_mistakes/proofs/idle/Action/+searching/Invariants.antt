use Rattle.std.proofs.Common.{◌≡◌, ◌++◌, drop}
use Rattle.sexpr_text.specs.Forest.{forest_of}
use Rattle.lint_mistakes.specs.Idle.{idle_in_row}
use Rattle.pddl_ast.proofs.Weights.{weight}
use Rattle.lint_mistakes.proofs.idle.Action.+searching.Given as goal

abbrev pub invariant-add_in_row-loop-form : goal.invariant-add_in_row-loop-form
invariant-add_in_row-loop-form l =
    l.found.items ++ idle_in_row (forest_of l.self.condition.now) (forest_of l.self.effect.now) (forest_of (drop l.form-index l.row))
    ≡ l.fn.found.items ++ idle_in_row (forest_of l.self.condition.now) (forest_of l.self.effect.now) (forest_of l.row)

abbrev pub decreases-add_in_row : goal.decreases-add_in_row
decreases-add_in_row l = weight (forest_of l.row.now)

abbrev pub decreases-add_at : goal.decreases-add_at
decreases-add_at l = weight (forest_of l.parts.now)
