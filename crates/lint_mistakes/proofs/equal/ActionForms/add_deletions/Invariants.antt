use Rattle.std.proofs.Common.{◌≡◌, ◌++◌, drop}
use Rattle.sexpr_text.specs.Forest.{forest_of}
use Rattle.lint_mistakes.specs.Equal.{undone_deletions}
use Rattle.lint_mistakes.specs.Values.{action_value}
use Rattle.lint_mistakes.proofs.equal.ActionForms.add_deletions.Given as goal

abbrev pub invariant-loop-form : goal.invariant-loop-form
invariant-loop-form l =
    l.found.items ++ undone_deletions (action_value l.self) (forest_of l.row) (forest_of (drop l.form-index l.effects))
    ≡ l.fn.found.items ++ undone_deletions (action_value l.self) (forest_of l.row) (forest_of l.effects)
