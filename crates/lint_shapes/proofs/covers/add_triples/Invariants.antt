-- What is found so far.
use Rattle.lint_shapes.specs.Found.{AreFound}
use Rattle.lint_shapes.proofs.covers.add_triples.Given as goal

abbrev pub invariant-loop-second : goal.invariant-loop-second
invariant-loop-second l = AreFound l.world.task.now l.search.found.items

abbrev pub invariant-loop-third : goal.invariant-loop-third
invariant-loop-third l = AreFound l.world.task.now l.search.found.items
