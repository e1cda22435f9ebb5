use Rattle.std.specs.Prelude.{◌≡◌, map, take}
use Rattle.rule_lookup.proofs.cases.cubes_of.Given as goal

-- the cubes of the cases so far
abbrev pub invariant-loop-case : goal.invariant-loop-case
invariant-loop-case l = map (λ cube. cube.now) l.cubes.items ≡ map (λ case. case.cube.items) (take l.case-index l.cases)
