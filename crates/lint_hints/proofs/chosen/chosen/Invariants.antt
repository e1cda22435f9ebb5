-- The shapes that are left, and those that are chosen.
use Rattle.lint_shapes.specs.Found.{AreFound}
use Rattle.lint_hints.proofs.chosen.chosen.Given as goal

abbrev pub invariant-loop : goal.invariant-loop
invariant-loop l = record {
  left : AreFound l.task l.left.items;
  chosen : AreFound l.task l.chosen.items;
}
