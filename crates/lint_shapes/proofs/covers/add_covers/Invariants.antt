-- What is found so far.
use Rattle.lint_shapes.specs.Found.{AreFound}
use Rattle.lint_shapes.proofs.covers.add_covers.Given as goal

abbrev pub invariant-loop-first : goal.invariant-loop-first
invariant-loop-first l = AreFound l.world.task.now l.search.found.items

abbrev pub invariant-loop-last : goal.invariant-loop-last
invariant-loop-last l = AreFound l.world.task.now l.search.found.items
