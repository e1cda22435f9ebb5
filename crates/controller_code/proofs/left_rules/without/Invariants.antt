-- The literals so far.
use Rattle.std.specs.Prelude.{◌≡◌, take}
use Rattle.task_core.specs.Cubes.{matches}
use Rattle.task_core.specs.Vectors.{Vector, value_of}
use Rattle.controller_code.proofs.left_rules.without.Given as goal

abbrev pub invariant-loop-lit : goal.invariant-loop-lit
invariant-loop-lit l =
    (v : Vector) → value_of v l.fluent.0 ≡ l.value → matches l.rest.items v ≡ matches (take l.lit-index l.cube) v
