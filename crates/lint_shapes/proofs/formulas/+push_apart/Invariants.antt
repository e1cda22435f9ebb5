-- There are fewer parts.
use Rattle.std.proofs.Common.{length}
use Rattle.lint_shapes.proofs.formulas.+push_apart.Given as goal

abbrev pub decreases-push_apart : goal.decreases-push_apart
decreases-push_apart l = length l.parts.now
