-- The literals so far.
use Rattle.std.specs.Prelude.{◌≡◌, take}
use Rattle.controller_code.proofs.left_rules.is_same_cube.Given as goal

abbrev pub invariant-loop-place : goal.invariant-loop-place
invariant-loop-place l = take l.place l.cube ≡ take l.place l.other
