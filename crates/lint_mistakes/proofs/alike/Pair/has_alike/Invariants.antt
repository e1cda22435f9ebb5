use Rattle.std.proofs.Common.{◌≡◌, drop}
use Rattle.sexpr_text.specs.Forest.{forest_of}
use Rattle.lint_mistakes.specs.Equal.{has_alike}
use Rattle.lint_mistakes.specs.Values.{pair_value}
use Rattle.lint_mistakes.proofs.alike.Pair.has_alike.Given as goal

abbrev pub invariant-loop-form : goal.invariant-loop-form
invariant-loop-form l =
    has_alike (pair_value l.self) (forest_of l.parts) (forest_of l.row) ≡ has_alike (pair_value l.self) (forest_of l.parts) (forest_of (drop l.form-index l.row))
