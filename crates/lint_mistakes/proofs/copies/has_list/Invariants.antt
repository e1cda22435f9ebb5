use Rattle.std.proofs.Common.{◌≡◌, drop}
use Rattle.sexpr_text.specs.Forest.{forest_of}
use Rattle.lint_mistakes.specs.Copies.{has_list}
use Rattle.lint_mistakes.proofs.copies.has_list.Given as goal

abbrev pub invariant-loop-form : goal.invariant-loop-form
invariant-loop-form l =
    has_list (forest_of l.parts) (forest_of l.row) ≡ has_list (forest_of l.parts) (forest_of (drop l.form-index l.row))
