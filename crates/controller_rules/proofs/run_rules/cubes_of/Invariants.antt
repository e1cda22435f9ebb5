use Rattle.std.proofs.Common.{◌≡◌, map, take}
use Rattle.controller_rules.specs.Checks.{run_cube}
use Rattle.controller_rules.proofs.run_rules.cubes_of.Given as goal

abbrev pub invariant-loop-rule : goal.invariant-loop-rule
invariant-loop-rule l = map (λ cube. cube.now) l.cubes.items ≡ map run_cube (take l.rule-index l.rules)
