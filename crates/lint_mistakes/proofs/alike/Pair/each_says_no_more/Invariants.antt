use Rattle.std.proofs.Common.{◌≡◌, drop}
use Rattle.sexpr_text.specs.Forest.{forest_of}
use Rattle.lint_mistakes.specs.Equal.{each_says_no_more}
use Rattle.lint_mistakes.specs.Values.{pair_value}
use Rattle.lint_mistakes.proofs.alike.Pair.each_says_no_more.Given as goal

abbrev pub invariant-loop-form : goal.invariant-loop-form
invariant-loop-form l =
    each_says_no_more (pair_value l.self) (forest_of l.parts) (forest_of l.row) ≡ each_says_no_more (pair_value l.self) (forest_of (drop l.form-index l.parts)) (forest_of l.row)
