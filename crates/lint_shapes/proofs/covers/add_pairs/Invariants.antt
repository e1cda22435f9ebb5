-- What is found so far.
use Rattle.lint_shapes.specs.Found.{AreFound}
use Rattle.lint_shapes.proofs.covers.add_pairs.Given as goal

abbrev pub invariant-loop-second : goal.invariant-loop-second
invariant-loop-second l = AreFound l.world.task.now l.search.found.items
