-- The rules so far.
use Rattle.std.specs.Prelude.{◌≡◌, take}
use Rattle.task_core.specs.Vectors.{Vector, value_of}
use Rattle.controller_code.specs.FirstMoves.{first_move}
use Rattle.controller_code.proofs.left_rules.left_where.Given as goal

abbrev pub invariant-loop-rule : goal.invariant-loop-rule
invariant-loop-rule l =
    (v : Vector) → value_of v l.fluent.0 ≡ l.value → first_move l.left.items v ≡ first_move (take l.rule-index l.rules) v
