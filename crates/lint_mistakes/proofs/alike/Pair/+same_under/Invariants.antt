use Rattle.std.proofs.Common.{◌≡◌, ◌≤◌}
use Rattle.sexpr_text.specs.Forest.{forest_of}
use Rattle.lint_mistakes.specs.Equal.{same_under}
use Rattle.lint_mistakes.specs.Values.{pair_value}
use Rattle.pddl_ast.proofs.Weights.{weight}
use Rattle.lint_mistakes.proofs.alike.Pair.+same_under.Given as goal

abbrev pub invariant-loop-span : goal.invariant-loop-span
invariant-loop-span l = record {
  same : same_under (pair_value l.self) (forest_of l.row) (forest_of l.other) ≡ same_under (pair_value l.self) (forest_of l.rest) (forest_of l.others);
  less : weight (forest_of l.rest) ≤ weight (forest_of l.row);
}

abbrev pub decreases-loop-span : goal.decreases-loop-span
decreases-loop-span l = weight (forest_of l.rest)

abbrev pub decreases-same_under : goal.decreases-same_under
decreases-same_under l = weight (forest_of l.row.now)
