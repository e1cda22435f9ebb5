-- What is found so far.
use Rattle.lint_shapes.specs.Found.{AreFound}
use Rattle.lint_shapes.proofs.groups.add_single.Given as goal

abbrev pub invariant-loop-counted : goal.invariant-loop-counted
invariant-loop-counted l = AreFound l.world.task.now l.search.found.items
