-- What is found so far.
use Rattle.lint_shapes.specs.Found.{AreFound}
use Rattle.lint_shapes.proofs.groups.add_singles.Given as goal

abbrev pub invariant-loop-signature : goal.invariant-loop-signature
invariant-loop-signature l = AreFound l.world.task.now l.search.found.items
