-- The cubes of the rules so far.
use Rattle.std.specs.Prelude.{◌≡◌, map, take}
use Rattle.exec_graph.specs.ByContext.{cubes_of}
use Rattle.exec_graph.proofs.rules.cubes_of.Given as goal

abbrev pub invariant-loop-rule : goal.invariant-loop-rule
invariant-loop-rule l = map (λ cube. cube.now) l.cubes.items ≡ cubes_of (take l.rule-index l.rules)
