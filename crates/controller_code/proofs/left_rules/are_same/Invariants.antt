-- The rules so far.
use Rattle.std.specs.Prelude.{◌≡◌, take}
use Rattle.task_core.specs.Vectors.{Vector}
use Rattle.controller_code.specs.FirstMoves.{first_move}
use Rattle.controller_code.proofs.left_rules.are_same.Given as goal

abbrev pub invariant-loop-place : goal.invariant-loop-place
invariant-loop-place l =
    (v : Vector) → first_move (take l.place l.rules) v ≡ first_move (take l.place l.others) v
