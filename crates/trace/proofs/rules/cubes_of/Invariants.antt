use Rattle.std.specs.Prelude.{◌≡◌, map, take}
use Rattle.trace.proofs.rules.cubes_of.Given as goal

-- the cubes of the rules so far
abbrev pub invariant-loop-rule : goal.invariant-loop-rule
invariant-loop-rule l = map (λ cube. cube.now) l.cubes.items ≡ map (λ rule. rule.cube.now) (take l.rule-index l.rules)
